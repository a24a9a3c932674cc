-- Seats and their results, index by index.
use Rattle.std.proofs.Common.{◌≡◌, ℕ, List, Result}
use Rattle.call_history.specs.declared.wire.Wire as Wire
use Rattle.desk_calls.specs.declared.call.Call.{Call}
use Rattle.desk_calls.specs.declared.call.Reply.{Reply}
use Rattle.match_messages.specs.BriefValue.{BriefValue}
use Rattle.role_workers.specs.declared.attend_fault.AttendFault.{AttendFault}
use Rattle.role_workers.specs.Events.{Telling}
use Rattle.role_workers.specs.Attendances.{HasEnded}
use Rattle.role_workers.specs.Seats.{IsLeftOf, IsLeftAt}
use Rattle.match_messages.specs.declared.player.Player as Player
use Rattle.role_workers.specs.declared.seat.Seat.{Seat}
use Rattle.role_workers.specs.declared.seat.Attended.{Attended}
use Rattle.role_workers.specs.declared.seats.LeftBy.{LeftBy}
use Rattle.role_workers.specs.Internal.Promises.{IsPromisedFor}

pub left_at : {P W : Type 0} (w : Wire.Ghosts W Call Reply) (p : Player.Ghosts P) (tries : ℕ) (seats : List (Seat P W)) (k : ℕ) (promise : LeftBy P W) (left : Attended P W) → IsPromisedFor tries seats k promise
    → IsLeftOf w p promise.tries promise.seat.value left → IsLeftAt w p tries seats k left
left_at w p tries seats k promise left it by = record {
  seat = promise.seat.value;
  is_seat = it.is_seat;
  left_by = rw (← it.tries_are) by;
}

pub same_ended : (b b' : BriefValue) (r r' tries : ℕ) (x x' y y' : Telling) (e e' : Result ℕ AttendFault) → b ≡ b' → r ≡ r' → x ≡ x' → y ≡ y' → e ≡ e' → HasEnded b r tries x y e → HasEnded b' r' tries x' y' e'
same_ended b b' r r' tries x x' y y' e e' bs rs xs ys es ended = rw (← bs, ← rs, ← xs, ← ys, ← es) ended
