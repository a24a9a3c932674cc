use Rattle.std.proofs.Common.{rules, tests}
use Rattle.std.proofs.lemmas.Iterator.{IsFirst-from_position}
use Rattle.std.proofs.lemmas.Iterator.Consumers.{YieldsList-from_deque}
use Rattle.match_season.specs.Queues.{IsBusy}
use Rattle.match_season.proofs.Waiting.{IsFree, IsFirstFree, first_free-some, first_free-none}
use Rattle.match_season.proofs.queue.MatchQueue.first_free.Goals as goal

pub returns : goal.returns
returns c =
    let queue = c.args.self.now in
    let found = c.position.result in
    let first : IsFirstFree queue found = IsFirst-from_position _ _ found (IsFree queue) (IsBusy queue) c.position.ensures.ran (YieldsList-from_deque queue.waiting.items cc) (λ x q k. search (rules, tests)) (λ x q k. search (rules, tests)) in
    record { some = first_free-some queue found first; none = first_free-none queue found first }
