use Rattle.match_workers.proofs.OwedMessages.{roles_are_owed}
use Rattle.match_workers.proofs.laws.roles_are_owed.Goals as goal

pub returns : goal.returns
returns g c =
    let messages = c.messages_are_answered.ensures in
    roles_are_owed g.G.Game.rules g.P.Player.handed c.new_match_is_lawful.ensures c.answers_keep_lawful.ensures messages.begin messages.own messages.others messages.over
