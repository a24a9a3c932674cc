use Rattle.std.proofs.Common.{◌≡◌, ◌+◌, drop, length, map, take}
use Rattle.std.specs.List.{AllZip}
use Rattle.match_plans.specs.Addresses.{IsAddress}
use Rattle.match_plans.specs.Schedules.{player_fault}
use Rattle.match_plans.proofs.plan_line.players.Given as goal

-- the error of all words is the error of the remaining words
abbrev pub invariant-loop-word : goal.invariant-loop-word
invariant-loop-word l = record {
  addresses : AllZip IsAddress (map (λ w. w.now) (take l.word-index l.words)) l.players.items;
  fault : player_fault 4 (map (λ w. w.now) l.words) ≡ player_fault (l.word-index + 4) (map (λ w. w.now) (drop l.word-index l.words));
  places : length l.players.items ≡ l.word-index;
}
