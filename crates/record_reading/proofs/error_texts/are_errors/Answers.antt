use Rattle.std.proofs.Common.{◌≡◌, ℕ, true, List, length, refl, subst, ◌∙◌, arith, rules}
use Rattle.std.specs.Prelude.{All}
use Rattle.std.proofs.lemmas.List.{take_all}
use Rattle.std.proofs.lemmas.List.Elements.{All-more}
use Rattle.record_reading.specs.RecordParts.{IsErrorText, AreErrors}
use Rattle.record_reading.proofs.error_texts.are_errors.Goals as goal

pub loop-turn-preserved : goal.loop-turn-preserved
loop-turn-preserved c =
    let yes : c.in_ok-are_error_texts.field-0 ≡ true = search rules in
    let wide : length c.as_slice-errors.result.now ≡ c.args.roles = omega arith in
    let IsTurn : List (List ℕ) → Type 0 = λ texts. (length texts ≡ c.args.roles) × All IsErrorText texts in
    All-more IsTurn c.args.turns.now c.loop-turn.turn-index c.turn-item.result c.loop-turn-test.true c.loop-turn.invariant
    (subst IsTurn (c.as_slice-errors.ensures ∙ c.turn-item.is) (wide, c.in_ok-are_error_texts.ensures.0 yes))

pub returns : goal.returns
returns c = (λ _. subst (AreErrors c.args.roles) (take_all c.loop-turn.turn-index c.args.turns.now c.loop-turn-test.false) c.loop-turn.invariant, λ _. refl)
