use Rattle.std.proofs.Common.{◌≡◌}
use Rattle.desk_service.proofs.service.attend.Given as goal

abbrev pub invariant-loop-turn : goal.invariant-loop-turn
invariant-loop-turn g l = l.line.number ≡ l.initial.line.number
