use Rattle.std.proofs.Common.{ℕ, ◌+◌, List, sym, ap, ◌∙◌, map, drop}
use Rattle.std.specs.Str.Parse.{digits_value}
use Rattle.std.specs.Option.{option_copied}
use Rattle.httparse.specs.Spans.{header_bytes}
use Rattle.http_exchange.specs.BodyLength.{said, has_name, transfer_encoding, content_length, value_fault}
use Rattle.http_exchange.specs.Internal.Heads.{agrees}
use Rattle.http_exchange.proofs.FieldSteps.{after, fault_after, after_all, all_faults, agrees_numeral, skips, skips_fault, takes_length, takes_fault, meets_coding, coding_fault, meets_difference, difference_fault}
use Rattle.http_exchange.proofs.body_length.said_length.Goals as goal

pub loop-header-init : goal.loop-header-init
loop-header-init c = record { length = after_all (map (header_bytes c.args.buf.now) c.args.headers.now); fault = all_faults (map (header_bytes c.args.buf.now) c.args.headers.now); numeral = tt }

pub returns-then-has_name-clause-value : goal.returns-then-has_name-clause-value
returns-then-has_name-clause-value c =
    let coding = sym (c.has_name.ensures ∙ ap (has_name transfer_encoding) c.of-name.ensures) ∙ c.if-has_name.true in
    meets_coding (header_bytes c.args.buf.now) _ _ c.args.headers.now c.loop-header.header-index _ c.loop-header-test.true coding c.loop-header.invariant.length

pub returns-then-has_name-clause-fault : goal.returns-then-has_name-clause-fault
returns-then-has_name-clause-fault c =
    let coding = sym (c.has_name.ensures ∙ ap (has_name transfer_encoding) c.of-name.ensures) ∙ c.if-has_name.true in
    coding_fault (header_bytes c.args.buf.now) _ _ c.args.headers.now c.loop-header.header-index _ c.loop-header-test.true coding c.loop-header.invariant.fault

pub loop-header-preserved-then-not-has_name : goal.loop-header-preserved-then-not-has_name
loop-header-preserved-then-not-has_name c =
    let coding = sym (c.has_name.ensures ∙ ap (has_name transfer_encoding) c.of-name.ensures) ∙ c.if-has_name.false in
    let length = sym (c.has_name-in-loop-header.ensures ∙ ap (has_name content_length) c.of-name.ensures) ∙ c.if-not-has_name.true in
    record {
      length = skips (header_bytes c.args.buf.now) _ _ c.args.headers.now c.loop-header.header-index _ c.loop-header-test.true coding length c.loop-header.invariant.length;
      fault = skips_fault (header_bytes c.args.buf.now) (option_copied c.loop-header.said) _ c.args.headers.now c.loop-header.header-index _ c.loop-header-test.true coding length c.loop-header.invariant.fault;
      numeral = c.loop-header.invariant.numeral;
    }

pub returns-then-not-agrees-clause-value : goal.returns-then-not-agrees-clause-value
returns-then-not-agrees-clause-value c =
    let coding = sym (c.has_name.ensures ∙ ap (has_name transfer_encoding) c.of-name.ensures) ∙ c.if-has_name.false in
    let length = sym (c.has_name-in-loop-header.ensures ∙ ap (has_name content_length) c.of-name.ensures) ∙ c.if-not-has_name.false in
    let differs = sym (c.agrees.ensures ∙ ap (agrees (option_copied c.loop-header.said)) c.of-value.ensures) ∙ c.if-not-agrees.true in
    meets_difference (header_bytes c.args.buf.now) (option_copied c.loop-header.said) _ c.args.headers.now c.loop-header.header-index _ c.loop-header-test.true coding length differs c.loop-header.invariant.length

pub returns-then-not-agrees-clause-fault : goal.returns-then-not-agrees-clause-fault
returns-then-not-agrees-clause-fault c =
    let coding = sym (c.has_name.ensures ∙ ap (has_name transfer_encoding) c.of-name.ensures) ∙ c.if-has_name.false in
    let length = sym (c.has_name-in-loop-header.ensures ∙ ap (has_name content_length) c.of-name.ensures) ∙ c.if-not-has_name.false in
    let differs = sym (c.agrees.ensures ∙ ap (agrees (option_copied c.loop-header.said)) c.of-value.ensures) ∙ c.if-not-agrees.true in
    c.value_fault.ensures ∙ ap value_fault c.of-value.ensures
    ∙ difference_fault (header_bytes c.args.buf.now) (option_copied c.loop-header.said) _ c.args.headers.now c.loop-header.header-index _ c.loop-header-test.true coding length differs c.loop-header.invariant.fault

pub loop-header-preserved : goal.loop-header-preserved
loop-header-preserved c =
    let coding = sym (c.has_name.ensures ∙ ap (has_name transfer_encoding) c.of-name.ensures) ∙ c.if-has_name.false in
    let length = sym (c.has_name-in-loop-header.ensures ∙ ap (has_name content_length) c.of-name.ensures) ∙ c.if-not-has_name.false in
    let before = option_copied c.loop-header.said in
    let agreeing = sym (c.agrees.ensures ∙ ap (agrees before) c.of-value.ensures) ∙ c.if-not-agrees.false in
    let rest = map (header_bytes c.args.buf.now) (drop (c.loop-header.header-index + 1) c.args.headers.now) in
    record {
      length = ap (λ (v : List ℕ). after (said (digits_value 10 v)) rest) c.of-value.ensures ∙ takes_length (header_bytes c.args.buf.now) before _ c.args.headers.now c.loop-header.header-index _ c.loop-header-test.true coding length agreeing c.loop-header.invariant.length;
      fault = ap (λ (v : List ℕ). fault_after (said (digits_value 10 v)) rest) c.of-value.ensures ∙ takes_fault (header_bytes c.args.buf.now) before _ c.args.headers.now c.loop-header.header-index _ c.loop-header-test.true coding length agreeing c.loop-header.invariant.fault;
      numeral = agrees_numeral before c.of-value.result.now (sym c.agrees.ensures ∙ c.if-not-agrees.false);
    }
