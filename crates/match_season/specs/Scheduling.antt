-- The end of a match in a thread of a season.
use Rattle.std.specs.Prelude.{◌≡◌, ◌≤◌, ◌<◌, ◌+◌, ◌&&◌, ◌⊎◌, Bool, true, false}
use Rattle.std.specs.VecDeque.{deque_capacity, deque_len}
use Rattle.match_season.specs.Queues.{with_match}
use Rattle.match_season.specs.declared.queue.WaitingMatch.{WaitingMatch}
use Rattle.match_season.specs.declared.scheduler.AfterMatch.{AfterMatch}
use Rattle.match_season.specs.declared.scheduler.AfterMatch.TheVariants.{Report, Retry, EndThread}
use Rattle.match_season.specs.declared.scheduler.SchedulerState.{SchedulerState}

-- The match did not run out of memory or threads; or no more matches may begin; or the only thread has already paused; or the queue has
-- no capacity for the match.
abbrev pub IsOver : SchedulerState → Bool → Type 0
IsOver state is_short =
    (is_short ≡ false) ⊎ ((state.is_closed ≡ true) ⊎ (((state.threads ≤ 1) × (state.has_rested ≡ true)) ⊎ (deque_capacity state.queue.waiting ≤ deque_len state.queue.waiting)))

-- The match ran out of memory or threads, and waits again.
pub record WaitsAgain (old new : SchedulerState) (waiting_match : WaitingMatch) (is_short : Bool) : Type 0 where
  pub was_short : is_short ≡ true
  pub is_open : old.is_closed ≡ false
  pub waits : new.queue.waiting.items ≡ with_match old.queue.waiting.items waiting_match

-- The effect of the end of a match on this match and on its thread.
abbrev pub Ends : SchedulerState → SchedulerState → WaitingMatch → Bool → AfterMatch → Type 0
Ends old new waiting_match is_short Report =
    IsOver old is_short × (new.queue.waiting.items ≡ old.queue.waiting.items) × (new.threads ≡ old.threads) × (new.has_rested ≡ old.has_rested && is_short)
Ends old new waiting_match is_short Retry =
    WaitsAgain old new waiting_match is_short × (old.threads ≤ 1) × (old.has_rested ≡ false) × (new.threads ≡ old.threads) × (new.has_rested ≡ true)
Ends old new waiting_match is_short EndThread =
    WaitsAgain old new waiting_match is_short × (1 < old.threads) × (new.threads + 1 ≡ old.threads) × (new.has_rested ≡ old.has_rested)
