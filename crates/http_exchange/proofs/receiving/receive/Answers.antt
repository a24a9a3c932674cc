use Rattle.std.proofs.Common.{◌≡◌, List, ℕ, length, slice_range, rules, sym, ap, subst, ◌∙◌}
use Rattle.std.proofs.lemmas.Result.{err_from_is_err_and}
use Rattle.http_exchange.specs.Carried.{Carried}
use Rattle.http_exchange.specs.HttpHead.{HeadIs}
use Rattle.http_exchange.specs.Looks.{look_past}
use Rattle.http_exchange.specs.Receipts.{receipt}
use Rattle.http_exchange.specs.declared.look.Look.TheVariants.{Body, Refused}
use Rattle.http_exchange.proofs.Found.{found_is_carried}
use Rattle.http_exchange.proofs.MessageReads.{reached, read_stops, look_stops, want_of_memory, looks_at, known_after, read_keeps}
use Rattle.http_exchange.proofs.receiving.receive.Goals as goal

pub returns-in_err-ended-clause-fails : goal.returns-in_err-ended-clause-fails
returns-in_err-ended-clause-fails g c =
    let passed = err_from_is_err_and c.from_residual.result c.from_residual.ensures.1 in
    rw (passed.1, passed.2) (read_stops c.args.kind c.in_err-ended.field-0.0 _ _ _ c.loop-call.bytes.items _ _ _ c.loop-call.invariant.given c.loop-call.invariant.wants c.loop-call.invariant.kept c.in_err-ended.ensures.fails)

pub head_after-head-requires : goal.head_after-head-requires
head_after-head-requires g c =
    let read = c.in_ok-ended.ensures.read in
    known_after c.args.kind c.loop-call.bytes.items read.given c.read_once.new.bytes.items c.deref.result.now c.loop-call.head read.grew c.deref.ensures.value c.loop-call.invariant.known

pub returns-in-Body-clause-body : goal.returns-in-Body-clause-body
returns-in-Body-clause-body g c =
    let read = c.in_ok-ended.ensures.read in
    let now = c.read_once.new.bytes.items in
    let count : c.len-have.result ≡ length c.read_once.new.bytes.items = search rules in
    let looks = looks_at c.args.kind c.deref.result.now now c.head_after-head.result c.len-have.result c.in_ok-ended.ended (Body c.in-Body.start c.in-Body.end) c.deref.ensures.value count c.head_after-head.ensures.head c.in-Body.ensures.value in
    let same = c.in_ok-body_of-in-Body.ensures ∙ ap (λ l. slice_range l c.in-Body.start c.in-Body.end) c.deref-in-Body.ensures.value in (
      now,
      c.in_ok-ended.ended,
      reached _ _ _ c.loop-call.bytes.items read.given now c.in_ok-ended.ended c.loop-call.invariant.given read.gives read.grew,
      subst (λ (b : List ℕ). Carried c.args.kind now c.in_ok-ended.ended b) (sym same) (found_is_carried c.args.kind now c.in_ok-ended.ended c.in-Body.start c.in-Body.end looks),
    )

pub returns-in_err-body_of-in-Body-clause-fails : goal.returns-in_err-body_of-in-Body-clause-fails
returns-in_err-body_of-in-Body-clause-fails g c =
    let passed = err_from_is_err_and c.from_residual-in_err-body_of-in-Body.result c.from_residual-in_err-body_of-in-Body.ensures.1 in
    let read = c.in_ok-ended.ensures.read in
    let now = c.read_once.new.bytes.items in
    rw passed.1 (
      now,
      c.in_ok-ended.ended,
      reached _ _ _ c.loop-call.bytes.items read.given now c.in_ok-ended.ended c.loop-call.invariant.given read.gives read.grew,
      want_of_memory c.args.kind passed.0 now c.in_ok-ended.ended _ _ passed.2,
    )

pub returns-in-Refused-clause-fails : goal.returns-in-Refused-clause-fails
returns-in-Refused-clause-fails g c =
    let read = c.in_ok-ended.ensures.read in
    let now = c.read_once.new.bytes.items in
    let count : c.len-have.result ≡ length c.read_once.new.bytes.items = search rules in
    let looks = looks_at c.args.kind c.deref.result.now now c.head_after-head.result c.len-have.result c.in_ok-ended.ended (Refused c.in-Refused.refusal) c.deref.ensures.value count c.head_after-head.ensures.head c.in-Refused.ensures.value in (
      now,
      c.in_ok-ended.ended,
      reached _ _ _ c.loop-call.bytes.items read.given now c.in_ok-ended.ended c.loop-call.invariant.given read.gives read.grew,
      look_stops c.args.kind c.in-Refused.refusal c.from.result now c.in_ok-ended.ended _ _ c.from.ensures looks,
    )

pub returns-in-Refused-clause-received : goal.returns-in-Refused-clause-received
returns-in-Refused-clause-received g c refused =
    let read = c.in_ok-ended.ensures.read in
    let now = c.read_once.new.bytes.items in
    let head = c.head_after-head.result in
    let count : c.len-have.result ≡ length c.read_once.new.bytes.items = search rules in (
      now,
      c.in_ok-ended.ended,
      reached _ _ _ c.loop-call.bytes.items read.given now c.in_ok-ended.ended c.loop-call.invariant.given read.gives read.grew,
      head,
      subst (λ (l : List ℕ). HeadIs c.args.kind l head) c.deref.ensures.value c.head_after-head.ensures.head,
      c.received_of.ensures ∙ ap (receipt head) count,
      c.in-Refused.refusal,
      c.in-Refused.ensures.value ∙ ap (λ n. look_past head n c.in_ok-ended.ended) count,
      c.from.ensures,
    )

pub loop-call-preserved : goal.loop-call-preserved
loop-call-preserved g c =
    let before = c.loop-call.invariant in
    let count : c.len-have.result ≡ length c.read_once.new.bytes.items = search rules in
    let after = read_keeps c.args.kind _ _ _ c.loop-call.bytes.items c.read_once.new.bytes.items c.deref.result.now c.head_after-head.result c.len-have.result c.in_ok-ended.ended c.args.stream.now c.loop-call.stream c.read_once.new.stream c.loop-call.call before.given before.kept before.called c.in_ok-ended.ensures.read c.deref.ensures.value count c.head_after-head.ensures.head c.in-More.ensures.value in
    record { given = after.0; wants = after.1; kept = after.2; called = after.3; known = after.4 }
