use Rattle.player_commands.specs.Seats.{AreSeated}
use Rattle.player_commands.proofs.check.match_plan.Given as goal

abbrev pub invariant-loop-place : goal.invariant-loop-place
invariant-loop-place l = AreSeated l.plan.player l.role l.place l.players.items
