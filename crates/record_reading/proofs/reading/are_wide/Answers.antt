use Rattle.std.proofs.Common.{◌≡◌, ℕ, List, length, refl, subst, ◌∙◌, arith}
use Rattle.std.specs.Prelude.{All}
use Rattle.std.proofs.lemmas.List.{take_all}
use Rattle.std.proofs.lemmas.List.Elements.{All-more}
use Rattle.record_reading.proofs.reading.are_wide.Goals as goal

pub loop-turn-preserved : goal.loop-turn-preserved
loop-turn-preserved c =
    let wide : length c.as_slice-texts.result.now ≡ c.args.roles = omega arith in
    let IsWide : List (List ℕ) → Type 0 = λ texts. length texts ≡ c.args.roles in
    All-more IsWide c.args.turns.now c.loop-turn.turn-index c.turn-item.result c.loop-turn-test.true c.loop-turn.invariant
    (subst IsWide (c.as_slice-texts.ensures ∙ c.turn-item.is) wide)

pub returns : goal.returns
returns c =
    let AreWide : List (List (List ℕ)) → Type 0 = All (λ texts. length texts ≡ c.args.roles) in
    (λ _. subst AreWide (take_all c.loop-turn.turn-index c.args.turns.now c.loop-turn-test.false) c.loop-turn.invariant, λ _. refl)
