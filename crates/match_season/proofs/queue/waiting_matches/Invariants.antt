use Rattle.std.proofs.Common.{◌≡◌, ℕ, ◌<◌, take, length, get_or}
use Rattle.std.specs.List.{AllZip}
use Rattle.match_season.specs.declared.queue.WaitingMatch.{WaitingMatch}
use Rattle.match_season.specs.Queues.{AreNumbersOf}
use Rattle.match_season.proofs.queue.waiting_matches.Given as goal

abbrev pub invariant-loop-place : goal.invariant-loop-place
invariant-loop-place l = record {
  each : length l.waiting.items ≡ l.place;
  in_order : (place : ℕ) (d : WaitingMatch) → place < l.place → (get_or l.waiting.items place d).place ≡ place;
  numbered : AllZip (λ plan waiting_match. AreNumbersOf l.addresses.keys plan.players.items waiting_match.players.items) (take l.place l.plans) l.waiting.items;
}
