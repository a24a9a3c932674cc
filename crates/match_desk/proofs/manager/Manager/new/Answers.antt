use Rattle.match_desk.proofs.Managers.{kept-opening}
use Rattle.match_desk.proofs.manager.Manager.new.Goals as goal

pub invariant_of-result : goal.invariant_of-result
invariant_of-result g c = kept-opening g.G.Game.rules c.args.games.items c.in_ok-matches.matches.entries c.in_ok-matches.ensures.empty
