use Rattle.std.proofs.Common.{arith, length, sym, ap, ◌∙◌, subst, ◌≡◌, ◌<◌}
use Rattle.std.specs.Prelude.{Result, Ok, Err, OnErr}
use Rattle.match_book.specs.LegalMoves.{AreLegalMoves}
use Rattle.match_book.proofs.KeptMatches.{kept-with_start_mark, kept-with_last_start_mark, last-to_start, answered-few}
use Rattle.match_book.proofs.matches.Match.take_start_mark.Goals as goal

on_err : {T E : Type 0} (X : Type 0) (r : Result T E) → X → OnErr r X
on_err X (Ok v) x = tt
on_err X (Err e) x = x

pub overflow_add-self-inside : goal.overflow_add-self-inside
overflow_add-self-inside g c =
    let few = answered-few (g.G.Game.rules c.self.inside.game.value) (g.met.G.Game.laws c.self.inside.game.value) c.self.invariant in
    omega (arith, few)

pub invariant_of-self : goal.invariant_of-self
invariant_of-self g c =
    kept-with_start_mark (g.G.Game.rules c.self.inside.game.value) (g.met.G.Game.laws c.self.inside.game.value) c.self.invariant c.args.role (rw (← c.self.view_is) at c.requires.role) c.args.mark
    (c.self.invariant.stage_is ∙ (rw (← c.self.view_is) at c.requires.stage)) (rw (← c.self.view_is) at c.requires.free) (omega (arith, c.self.invariant.lawful.one_start_mark, c.self.inside.start_marks.ok.0))

pub invariant_of-self-2 : goal.invariant_of-self-2
invariant_of-self-2 g c =
    let same = ap (λ p. p.game) c.self.view_is ∙ c.requires.game in
    let turns : length c.self.inside.turns.items ≡ c.len-2.result = omega (arith, c.len-2.ensures, c.self.inside.turns.ok.0) in
    kept-with_last_start_mark (g.G.Game.rules c.self.inside.game.value) (g.met.G.Game.laws c.self.inside.game.value) c.self.invariant c.args.role (rw (← c.self.view_is) at c.requires.role) c.args.mark
    (c.self.invariant.stage_is ∙ (rw (← c.self.view_is) at c.requires.stage)) (rw (← c.self.view_is) at c.requires.free) c.in_ok-settlement.settlement.stage c.in_ok-settlement.settlement.legal.items c.in_ok-settlement.settlement.goals.items
    (omega (arith, c.self.invariant.lawful.one_start_mark, c.self.inside.start_marks.ok.0)) (cc (c.in_ok-settlement.ensures.stage, same, turns))
    (λ playing. subst (λ x. AreLegalMoves (g.G.Game.rules x) c.self.inside.state c.in_ok-settlement.settlement.legal.items) (sym same) (c.in_ok-settlement.ensures.legal playing))
    (λ k lt. cc (c.in_ok-settlement.ensures.stage, c.in_ok-settlement.ensures.goals k (subst (λ x. k < (g.G.Game.rules x).roles) same lt), same))

pub returns-in_err-settlement-clause-last : goal.returns-in_err-settlement-clause-last
returns-in_err-settlement-clause-last g c =
    let last =
    last-to_start (g.G.Game.rules c.self.inside.game.value) (g.met.G.Game.laws c.self.inside.game.value) c.self.invariant c.args.role (rw (← c.self.view_is) at c.requires.role) c.args.mark
    (c.self.invariant.stage_is ∙ (rw (← c.self.view_is) at c.requires.stage)) (rw (← c.self.view_is) at c.requires.free) (omega (arith, c.self.invariant.lawful.one_start_mark, c.self.inside.start_marks.ok.0))
    in
    rw (← c.self.view_is) (on_err _ c.from_residual.result last)
