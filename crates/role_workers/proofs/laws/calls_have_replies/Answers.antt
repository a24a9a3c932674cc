use Rattle.role_workers.proofs.RoleCalls.{all_replies}
use Rattle.role_workers.proofs.laws.calls_have_replies.Goals as goal

pub returns : goal.returns
returns c = all_replies
