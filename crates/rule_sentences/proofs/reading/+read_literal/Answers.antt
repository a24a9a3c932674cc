use Rattle.std.proofs.Common.{◌≡◌, ◌∙◌, sym, ap, map, get_or, None, Some, option_map, arith}
use Rattle.kif_text.specs.View.{view as expression}
use Rattle.rule_sentences.specs.SentenceViews.{view}
use Rattle.rule_sentences.specs.Reading.{read_literal}
use Rattle.rule_sentences.proofs.LiteralLists.{stops, goes-on, ends, left-passed}
use Rattle.rule_sentences.proofs.reading.+read_literal.Goals as goal
use Rattle.rule_sentences.proofs.reading.+read_literal.Goals.{read_literals-then-place-start+in_ok-literal+in-Some+in_ok-push-in-Some, read_literals-else-place-start}

pub read_literals-returns-in-None : goal.read_literals-returns-in-None
read_literals-returns-in-None t c =
    let xs = c.deref-member-items.result.now in
    let x = c.member-item.result in
    let is : read_literal (expression (get_or xs c.loop-place.place x)) ≡ None = ap (λ y. read_literal (expression y)) (sym c.member-item.is) ∙ sym c.in_ok-literal.ensures ∙ ap (option_map view) c.in-None.is in
    rw (← c.deref-member-items.ensures.value) (stops (map view c.loop-place.literals.items) c.args.start c.loop-place.place xs x _ c.loop-place-test.true (omega arith) is c.loop-place.invariant)

pub read_literals-loop-place-preserved : goal.read_literals-loop-place-preserved
read_literals-loop-place-preserved t c =
    let xs = c.deref-member-items.result.now in
    let x = c.member-item.result in
    elim c.if-place-start.branch [
      | read_literals-then-place-start+in_ok-literal+in-Some+in_ok-push-in-Some w ↦
          let is : Some (view w.in-Some.literal) ≡ read_literal (expression (get_or xs c.loop-place.place x)) = sym (ap (option_map view) w.in-Some.is) ∙ w.in_ok-literal.ensures ∙ ap (λ y. read_literal (expression y)) c.member-item.is in
          rw (w.literals-is, w.in_ok-push-in-Some.ensures.items) (goes-on c.loop-place.literals.items w.in-Some.literal c.args.start c.loop-place.place xs x _ c.loop-place-test.true (omega arith) is c.loop-place.invariant)
      | read_literals-else-place-start w ↦ rw (w.literals-is, ← left-passed c.args.start c.loop-place.place xs x c.loop-place-test.true (omega arith)) c.loop-place.invariant
    ]

pub read_literals-returns : goal.read_literals-returns
read_literals-returns t c =
    rw (← c.deref-member-items.ensures.value) (ends (map view c.loop-place.literals.items) c.args.start c.loop-place.place c.deref-member-items.result.now _ (omega arith) c.loop-place.invariant)
