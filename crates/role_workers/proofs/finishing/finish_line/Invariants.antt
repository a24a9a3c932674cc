use Rattle.role_workers.specs.RoleLines.{IsFinishedOf}
use Rattle.role_workers.proofs.finishing.finish_line.Given as goal

abbrev pub invariant-loop : goal.invariant-loop
invariant-loop g l = IsFinishedOf l.fn.line l.end
