use Rattle.std.proofs.Common.{◌≡◌}
use Rattle.matches_to_play.specs.ToPlay.{left_of}
use Rattle.matches_to_play.proofs.schedules.left_over.Given as goal

abbrev pub invariant-loop-plan : goal.invariant-loop-plan
invariant-loop-plan l = l.left.items ≡ left_of l.done l.yielded
