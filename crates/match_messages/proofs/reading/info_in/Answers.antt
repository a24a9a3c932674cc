use Rattle.match_messages.proofs.Forms.{info_many}
use Rattle.match_messages.proofs.reading.info_in.Goals as goal

pub returns-in_default : goal.returns-in_default
returns-in_default c = info_many c.args.members.now c.in_default.len_at_least
