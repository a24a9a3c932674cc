use Rattle.std.proofs.Common.{◌∙◌}
use Rattle.match_desk.proofs.MatchSlots.{is_some-match_of}
use Rattle.match_desk.proofs.manager.Manager.has_match.Goals as goal

pub returns : goal.returns
returns g c = c.contains_key.ensures ∙ is_some-match_of c.self.inside.games.items c.self.inside.matches.entries c.self.invariant.slots c.args.id.now c.args.self.now c.self.view_is
