use Rattle.match_messages.proofs.ReadBack.{owed_messages_read_back}
use Rattle.match_messages.proofs.laws.owed_messages_read_back.Goals as goal

pub returns : goal.returns
returns c = owed_messages_read_back c.messages_read_back.ensures
