use Rattle.std.proofs.Common.{sym}
use Rattle.match_play.proofs.playing.refereed_match.Goals as goal

pub returns-in-None-2-clause-refereed : goal.returns-in-None-2-clause-refereed
returns-in-None-2-clause-refereed g c = (c.in_ok-refereed._players.items, rw (sym c.new.ensures) c.in_ok-refereed.ensures.refereed)
