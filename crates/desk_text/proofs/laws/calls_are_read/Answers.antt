use Rattle.desk_text.proofs.ReadCalls.{call_read}
use Rattle.desk_text.proofs.laws.calls_are_read.Goals as goal

pub returns : goal.returns
returns c = call_read
