use Rattle.match_season.proofs.Numbering.{lengthened}
use Rattle.match_season.proofs.queue.number_of.Goals as goal

pub returns-clause-kept : goal.returns-clause-kept
returns-clause-kept c = lengthened _ _ _ _ c.in_ok-number.ensures.keys
