use Rattle.role_workers.proofs.OwedReplies.{owed_handed_over}
use Rattle.role_workers.proofs.laws.owed_are_handed_over.Goals as goal

pub returns : goal.returns
returns c = owed_handed_over
