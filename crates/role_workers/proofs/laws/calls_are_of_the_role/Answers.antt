use Rattle.role_workers.proofs.RoleCalls.{role_calls}
use Rattle.role_workers.proofs.laws.calls_are_of_the_role.Goals as goal

pub returns : goal.returns
returns c = role_calls
