use Rattle.std.proofs.Common.{◌≡◌, ◌∙◌, arith, rules, tests}
use Rattle.std.specs.Prelude.{nat_lt, position}
use Rattle.std.proofs.lemmas.Iterator.Consumers.{YieldsList-from_deque}
use Rattle.std.proofs.lemmas.Iterator.Search.{position_from_yields_List}
use Rattle.match_season.specs.Queues.{turn_of}
use Rattle.match_season.specs.declared.queue.WaitingMatch.{WaitingMatch}
use Rattle.match_season.proofs.Waiting.{found-turn, turn-within}
use Rattle.match_season.proofs.queue.MatchQueue.place_of.Goals as goal

pub returns : goal.returns
returns c =
    let deque = c.args.self.now.waiting in
    let waiting = deque.items in
    let place = c.args.place in
    let found : c.position.result ≡ position (λ (it : WaitingMatch). nat_lt place it.place) waiting = position_from_yields_List (λ (it : WaitingMatch). nat_lt place it.place) _ _ c.position.result c.position.ensures.ran (YieldsList-from_deque waiting cc) (λ x b q k. search (rules, tests)) in
    let turn : c.unwrap_or.result ≡ turn_of waiting place = found-turn place c.len.result c.unwrap_or.result waiting c.position.result found (c.len.ensures ∙ deque.ok.0) c.unwrap_or.ensures in
    record { turn = turn; within = omega (arith, turn, turn-within place waiting, deque.ok.0) }
