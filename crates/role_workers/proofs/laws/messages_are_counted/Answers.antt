use Rattle.role_workers.proofs.Workers.{messages_told}
use Rattle.role_workers.proofs.laws.messages_are_counted.Goals as goal

pub returns : goal.returns
returns c = messages_told
