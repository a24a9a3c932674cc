use Rattle.std.proofs.Common.{rules}
use Rattle.match_season.proofs.queue.MatchQueue.of.Goals as goal

pub returns-clause-wait : goal.returns-clause-wait
returns-clause-wait c = record { in_order = c.in_ok-waiting.ensures.in_order; addresses = c.waiting_matches.new.addresses.keys; numbered = c.in_ok-waiting.ensures.numbered; nobody_sits = search rules }
