use Rattle.std.proofs.Common.{arith, sym, ap, ◌∙◌, Some}
use Rattle.match_book.proofs.LawfulTurns.{turn-width, error_at-is}
use Rattle.match_book.proofs.matches.Match.error_at.Goals as goal

pub at-requires : goal.at-requires
at-requires g c =
    let wide = turn-width (g.G.Game.rules c.self.inside.game.value) c.self.inside.turns.items c.args.turn c.index.result.now c.self.invariant.lawful.turns (rw (← c.self.view_is) at c.requires.turn) c.index.ensures in
    let role = rw (← c.self.view_is) at c.requires.role in
    omega (arith, wide.1, role)

pub returns : goal.returns
returns g c =
    rw (← c.self.view_is)
    (error_at-is c.self.inside.turns.items c.args.turn c.args.role c.index.result.now c.as_slice.result.now (rw (← c.self.view_is) at c.requires.turn) c.index.ensures (c.at.ensures ∙ ap Some (sym c.as_slice.ensures)))
