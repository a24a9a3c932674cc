use Rattle.std.proofs.Common.{arith, ap, ◌∙◌}
use Rattle.match_book.specs.Phase.{is_live}
use Rattle.match_book.proofs.KeptMatches.{kept-with_end_mark, answered-few}
use Rattle.match_book.proofs.matches.Match.take_end_mark.Goals as goal

pub overflow_add-self : goal.overflow_add-self
overflow_add-self g c =
    let few = answered-few (g.G.Game.rules c.self.inside.game.value) (g.met.G.Game.laws c.self.inside.game.value) c.self.invariant in
    omega (arith, few)

pub invariant_of-self : goal.invariant_of-self
invariant_of-self g c =
    kept-with_end_mark (g.G.Game.rules c.self.inside.game.value) (g.met.G.Game.laws c.self.inside.game.value) c.self.invariant c.args.role (rw (← c.self.view_is) at c.requires.role) c.args.mark
    (ap is_live c.self.invariant.stage_is ∙ (rw (← c.self.view_is) at c.requires.stage)) (rw (← c.self.view_is) at c.requires.free)
