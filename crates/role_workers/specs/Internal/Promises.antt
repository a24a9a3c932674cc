-- The guarantees of the threads that attend the seats.
use Rattle.std.specs.Prelude.{◌≡◌, ℕ, List, Some, slice_get}
use Rattle.std.specs.declared.thread.PromisedHandle.{PromisedHandle}
use Rattle.call_history.specs.declared.wire.Wire as Wire
use Rattle.desk_calls.specs.declared.call.Call.{Call}
use Rattle.desk_calls.specs.declared.call.Reply.{Reply}
use Rattle.match_messages.specs.declared.player.Player as Player
use Rattle.role_workers.specs.declared.seat.Attended.{Attended}
use Rattle.role_workers.specs.declared.seat.Seat.{Seat}
use Rattle.role_workers.specs.declared.seats.LeftBy.{LeftBy}
use Rattle.role_workers.specs.Seats.{IsLeftOf}
use Rattle.role_workers.specs.Places.{EachAt}

-- the result of the thread with this index satisfies the guarantee that the thread was started with
pub record IsKept {P W : Type 0} (w : Wire.Ghosts W Call Reply) (p : Player.Ghosts P) (handles : List (PromisedHandle (Attended P W) (LeftBy P W))) (k : ℕ) (left : Attended P W) : Type 0 where
  pub handle : PromisedHandle (Attended P W) (LeftBy P W)
  pub is_handle : slice_get handles k ≡ Some handle
  pub left_by : IsLeftOf w p handle.promise.tries handle.promise.seat.value left

-- this is the guarantee for the seat with this index
pub record IsPromisedFor {P W : Type 0} (tries : ℕ) (seats : List (Seat P W)) (k : ℕ) (promise : LeftBy P W) : Type 0 where
  pub is_seat : slice_get seats k ≡ Some promise.seat.value
  pub tries_are : promise.tries ≡ tries

-- each thread was started with the guarantee for the seat with its index
abbrev pub ArePromisedFor : {P W : Type 0} → ℕ → List (Seat P W) → List (PromisedHandle (Attended P W) (LeftBy P W)) → Type 0
ArePromisedFor tries seats handles = EachAt (λ k handle. IsPromisedFor tries seats k handle.promise) handles
