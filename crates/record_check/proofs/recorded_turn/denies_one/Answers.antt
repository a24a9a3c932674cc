use Rattle.std.proofs.Common.{Bool, sym, subst}
use Rattle.std.specs.Prelude.{IsTrue, ◌↔◌}
use Rattle.record_check.specs.Replaying.{DeniesOne}
use Rattle.record_check.proofs.RecordedMoves.{denies-place}
use Rattle.record_check.proofs.recorded_turn.denies_one.Goals as goal

pub returns-in-Some : goal.returns-in-Some
returns-in-Some g c =
    let game = g.G.Game.rules c.args.game.now in
    let moves = c.args.moves.now in
    let e = c.args.error.now in
    subst (λ (b : Bool). IsTrue b ↔ DeniesOne game moves e) (sym c.is_some.ensures) (denies-place game moves e c.in-Some.read.now c.place_of.result c.in-Some.ensures c.place_of.ensures)
