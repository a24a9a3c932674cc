-- The waiting matches of a season, and the players of the running matches.
use Rattle.std.specs.Prelude.{◌≡◌, ◌<◌, ◌+◌, ◌-◌, ◌^◌, ◌==◌, ◌&&◌, ◌∷◌, ◌++◌, ◌⊎◌, ℕ, Bool, true, false, List, [], Some, All, count_by, get_or, insert, length, map, min, nat_lt, remove, replicate, slice_get, take}
use Rattle.std.specs.Borrow.{Bor}
use Rattle.std.specs.List.{AllZip, list_all, list_any, position_or_len}
use Rattle.std.specs.Str.{bytes_eq}
use Rattle.match_plans.specs.declared.addresses.PlayerAddress.{PlayerAddress}
use Rattle.match_plans.specs.declared.plan.MatchPlan.{MatchPlan}
use Rattle.match_season.specs.declared.queue.WaitingMatch.{WaitingMatch}
use Rattle.match_season.specs.declared.queue.MatchQueue.{MatchQueue}

-- the number is appended to the list, unless the list already contains it
abbrev pub ListsOnce : List ℕ → List ℕ → ℕ → Type 0
ListsOnce old new number =
    ((list_any (λ it. it == number) old ≡ true) × (new ≡ old)) ⊎ ((list_any (λ it. it == number) old ≡ false) × (new ≡ old ++ number ∷ []))

abbrev pub Addresses : Type 0
Addresses = List (Bor (List ℕ) × ℕ)

-- the player has this host and this port
abbrev pub is_at : PlayerAddress → Bor (List ℕ) × ℕ → Bool
is_at player address = bytes_eq player.host.now address.0.now && (player.port == address.1)

abbrev pub number_of : Addresses → PlayerAddress → ℕ
number_of addresses player = position_or_len (is_at player) addresses

-- some addresses may have been appended
abbrev pub Lengthens : Addresses → Addresses → Type 0
Lengthens old new = (more : Addresses) × (new ≡ old ++ more)

-- Each of these players has fewer running matches than the limit. The list gives the number of running matches of each player, indexed
-- by the player's number.
abbrev pub are_free : List ℕ → ℕ → List ℕ → Bool
are_free sitting concurrent players = list_all (λ player. nat_lt (get_or sitting player 0) concurrent) players

-- one of the match's players has reached its limit of running matches
abbrev pub IsBusy : MatchQueue → WaitingMatch → Type 0
IsBusy queue waiting_match = are_free queue.sitting.items queue.concurrent waiting_match.players.items ≡ false

-- how often the player is in this list
abbrev pub times : List ℕ → ℕ → ℕ
times players player = count_by (λ it. it == player) players

-- The addresses of these players are listed, and these are their numbers, each once.
pub record AreNumbersOf (addresses : Addresses) (players : List PlayerAddress) (numbers : List ℕ) : Type 0 where
  pub listed : All (λ player. number_of addresses player < length addresses) players
  pub once : (number : ℕ) → times numbers number ≡ min 1 (times (map (number_of addresses) players) number)

-- Each of these players has one more running match, unless the count is at its maximum. The counts of other players stay the same.
abbrev pub SitDown : List ℕ → List ℕ → List ℕ → Type 0
SitDown old new players =
    (length new ≡ length old)
    × ((player : ℕ) → player < length old → get_or old player 0 + times players player < 2 ^ 64 → get_or new player 0 ≡ get_or old player 0 + times players player)

-- Each of these players has one fewer running match, if it had any. The counts of other players stay the same.
abbrev pub StandUp : List ℕ → List ℕ → List ℕ → Type 0
StandUp old new players = (length new ≡ length old) × ((player : ℕ) → get_or new player 0 ≡ get_or old player 0 - times players player)

-- All matches of a schedule wait, in its order, with the numbers of their players. No player has a running match.
pub record AllWait (queue : MatchQueue) (plans : List MatchPlan) : Type 0 where
  pub in_order : (place : ℕ) (d : WaitingMatch) → place < length plans → (get_or queue.waiting.items place d).place ≡ place
  pub addresses : Addresses
  pub numbered : AllZip (λ plan waiting_match. AreNumbersOf addresses plan.players.items waiting_match.players.items) plans queue.waiting.items
  pub nobody_sits : queue.sitting.items ≡ replicate (length addresses) 0

-- The first waiting match whose players are all free begins. The other matches stay in order, and each player of this match has one more
-- running match.
pub record Begins (old new : MatchQueue) (first : WaitingMatch) : Type 0 where
  pub at : ℕ
  pub waited : slice_get old.waiting.items at ≡ Some first
  pub is_free : are_free old.sitting.items old.concurrent first.players.items ≡ true
  pub others_are_busy : All (IsBusy old) (take at old.waiting.items)
  pub others_wait : new.waiting.items ≡ remove old.waiting.items at
  pub sit : SitDown old.sitting.items new.sitting.items first.players.items
  pub same : new.concurrent ≡ old.concurrent

-- the number of waiting matches before the first one that is later in the schedule than this index
abbrev pub turn_of : List WaitingMatch → ℕ → ℕ
turn_of waiting place = position_or_len (λ it. nat_lt place it.place) waiting

-- the waiting matches and this match, in the order of the schedule
abbrev pub with_match : List WaitingMatch → WaitingMatch → List WaitingMatch
with_match waiting waiting_match = insert waiting (turn_of waiting waiting_match.place) waiting_match
