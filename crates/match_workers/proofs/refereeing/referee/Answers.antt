use Rattle.std.proofs.Common.{sym}
use Rattle.match_workers.proofs.refereeing.referee.Goals as goal

pub returns-clause-refereed : goal.returns-clause-refereed
returns-clause-refereed g c = (c.in_ok-refereed._players.items, rw (sym c.deref.ensures.value) c.in_ok-refereed.ensures.refereed)
