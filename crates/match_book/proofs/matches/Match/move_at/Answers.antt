use Rattle.std.proofs.Common.{arith}
use Rattle.match_book.proofs.LawfulTurns.{turn-width, turn-moves, move_at-is, All-get}
use Rattle.match_book.proofs.matches.Match.move_at.Goals as goal

pub at-requires : goal.at-requires
at-requires g c =
    let wide = turn-width (g.G.Game.rules c.self.inside.game.value) c.self.inside.turns.items c.args.turn c.index.result.now c.self.invariant.lawful.turns (rw (← c.self.view_is) at c.requires.turn) c.index.ensures in
    let role = rw (← c.self.view_is) at c.requires.role in
    omega (arith, wide.0, role)

pub returns-clause-taken : goal.returns-clause-taken
returns-clause-taken g c =
    rw (← c.self.view_is)
    (move_at-is c.self.inside.turns.items c.args.turn c.args.role c.index.result.now c.at.result.now (rw (← c.self.view_is) at c.requires.turn) c.index.ensures c.at.ensures)

pub returns-clause-is_move : goal.returns-clause-is_move
returns-clause-is_move g c =
    let turn = rw (← c.self.view_is) at c.requires.turn in
    let moves = turn-moves (g.G.Game.rules c.self.inside.game.value) (g.met.G.Game.laws c.self.inside.game.value) c.self.inside.turns.items c.args.turn c.index.result.now c.self.invariant.lawful.turns turn c.index.ensures in
    rw (← c.self.view_is) (All-get (λ m. (g.G.Game.rules c.self.inside.game.value).IsMove m) c.index.result.now.moves c.args.role c.at.result.now moves c.at.ensures)
