use Rattle.match_book.specs.RoleStrikes.{is_retired_in}
use Rattle.record_check.proofs.RecordedMoves.{SoFar}
use Rattle.record_check.proofs.recorded_turn.recorded_joint.Given as goal

abbrev pub invariant-loop-role : goal.invariant-loop-role
invariant-loop-role g l = SoFar (g.G.Game.rules l.game) (is_retired_in l.strikes) l.state l.turn.moves.now l.turn.errors.now l.role l.joint.items
