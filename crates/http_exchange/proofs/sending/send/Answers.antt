use Rattle.std.proofs.Common.{◌≡◌, ◌≤◌, ℕ, ◌+◌, rules, arith, List, length, length-append, length-drop, take, drop, Option, subst, sym, ap, ◌∙◌, ◌++◌}
use Rattle.std.proofs.lemmas.List.{take-append-le}
use Rattle.std.specs.Io.KnownBytes.{Appends}
use Rattle.std.proofs.KnownBytes.{Appends-trans}
use lib.Seq.{take-add}
use Rattle.http_exchange.proofs.MessageReads.{one_more_call}
use Rattle.http_exchange.proofs.sending.send.Goals as goal

-- one more write takes n bytes, starting at index t
Appends_more : (a b c : Option (List ℕ)) (text rest more : List ℕ) (t n : ℕ) → rest ++ more ≡ drop t text → n ≤ length rest
    → Appends a b (take t text) → Appends b c (take n rest) → Appends a c (take (t + n) text)
Appends_more a b c text rest more t n is within before now =
    subst (Appends a c) (ap (λ l. take t text ++ l) (sym (take-append-le n rest more within) ∙ ap (take n) is) ∙ sym (take-add t n text)) (Appends-trans a b c _ _ before now)

still_within : (text rest more : List ℕ) (t n : ℕ) → rest ++ more ≡ drop t text → n ≤ length rest → t ≤ length text → t + n ≤ length text
still_within text rest more t n is within before = omega (arith, ap length is, length-append rest more, length-drop t text)

pub loop-call-preserved : goal.loop-call-preserved
loop-call-preserved g c =
    let text = c.args.text.now in
    let rest = c.rest.result.now in
    let front = c.rest.ensures.front in
    record {
      within = still_within text rest front.0 c.loop-call.taken c.in_ok-taken.field-0 front.1 c.in_ok-taken.ensures.bound c.loop-call.invariant.within;
      stands = Appends_more _ _ _ text rest front.0 c.loop-call.taken c.in_ok-taken.field-0 front.1 c.in_ok-taken.ensures.bound c.loop-call.invariant.stands c.in_ok-taken.ensures.bytes;
      kept = search rules;
      called = one_more_call c.loop-call.call _ c.loop-call.stream.calls _ c.loop-call.invariant.called c.write_once.ensures.called;
    }

pub overflow_add-taken : goal.overflow_add-taken
overflow_add-taken g c =
    let text = c.args.text.now in
    let front = c.rest.ensures.front in
    let within = still_within text c.rest.result.now front.0 c.loop-call.taken c.in_ok-taken.field-0 front.1 c.in_ok-taken.ensures.bound c.loop-call.invariant.within in
    omega (arith, within)
