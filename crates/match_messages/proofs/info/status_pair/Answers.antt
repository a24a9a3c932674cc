use Rattle.std.proofs.Common.{sym}
use Rattle.match_messages.proofs.Forms.{status_few, status_many}
use Rattle.match_messages.proofs.info.status_pair.Goals as goal

pub returns-in_default : goal.returns-in_default
returns-in_default c = sym (status_few c.args.members.now c.in_default.len_below)

pub returns-in_default-2 : goal.returns-in_default-2
returns-in_default-2 c = sym (status_many c.args.members.now c.in_default.len_at_least)
