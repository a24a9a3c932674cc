use Rattle.match_desk.proofs.FollowedHistories.{opening-accounted}
use Rattle.match_desk.proofs.laws.answers_are_accounted.Goals as goal

pub returns : goal.returns
returns g c = opening-accounted g.G.Game.rules c.match_laws.ensures c.args.opening.now c.requires.opening c.args.history.now c.requires.legal
