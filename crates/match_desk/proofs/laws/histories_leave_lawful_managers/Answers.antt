use Rattle.match_desk.proofs.FollowedHistories.{opening-lawful}
use Rattle.match_desk.proofs.laws.histories_leave_lawful_managers.Goals as goal

pub returns : goal.returns
returns g c = opening-lawful g.G.Game.rules c.match_laws.ensures c.args.opening.now c.requires.opening c.args.history.now c.requires.legal
