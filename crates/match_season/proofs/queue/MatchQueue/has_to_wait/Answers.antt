use Rattle.match_season.proofs.Waiting.{none-begins}
use Rattle.match_season.proofs.queue.MatchQueue.has_to_wait.Goals as goal

pub returns : goal.returns
returns c = none-begins c.args.self.now c.first_free.result c.is_empty.result c.is_none.result c.is_empty.ensures c.if-is_empty.false c.is_none.ensures c.first_free.ensures.some c.first_free.ensures.none
