use Rattle.desk_text.proofs.ReadHistories.{history_read}
use Rattle.desk_text.proofs.laws.histories_are_read.Goals as goal

pub returns : goal.returns
returns c = history_read
