-- Seats, and the results of attending them.
use Rattle.std.specs.Prelude.{◌≡◌, ℕ, List, Some, slice_get}
use Rattle.call_history.specs.declared.wire.Wire as Wire
use Rattle.desk_calls.specs.declared.call.Call.{Call}
use Rattle.desk_calls.specs.declared.call.Reply.{Reply}
use Rattle.match_messages.specs.BriefValue.{BriefValue}
use Rattle.match_messages.specs.declared.player.Player as Player
use Rattle.role_workers.specs.Attendances.{IsAttended}
use Rattle.role_workers.specs.Places.{EachAt}
use Rattle.role_workers.specs.declared.seat.Seat.{Seat}
use Rattle.role_workers.specs.declared.seat.Attended.{Attended}

pub record IsSeatOf {P W : Type 0} (brief : BriefValue) (players : List P) (wires : List W) (role : ℕ) (seat : Seat P W) : Type 0 where
  pub brief_is : seat.brief.now ≡ brief
  pub role_is : seat.role ≡ role
  pub player_is : slice_get players role ≡ Some seat.player
  pub wire_is : slice_get wires role ≡ Some seat.wire

-- the seats of a match in the order of the roles
abbrev pub AreSeatsOf : {P W : Type 0} → BriefValue → List P → List W → List (Seat P W) → Type 0
AreSeatsOf brief players wires seats = EachAt (IsSeatOf brief players wires) seats

module _ {P W : Type 0} (w : Wire.Ghosts W Call Reply) (p : Player.Ghosts P) where
  -- the result of attending this seat
  abbrev pub IsLeftOf : ℕ → Seat P W → Attended P W → Type 0
  IsLeftOf tries seat left = IsAttended w p seat.brief.now seat.role tries seat.player left.player seat.wire left.wire left.end

  -- the result of attending the seat with this index
  pub record IsLeftAt (tries : ℕ) (seats : List (Seat P W)) (k : ℕ) (left : Attended P W) : Type 0 where
    pub seat : Seat P W
    pub is_seat : slice_get seats k ≡ Some seat
    pub left_by : IsLeftOf tries seat left

  -- the results of attending the seats, in order
  abbrev pub AreLeftBy : ℕ → List (Seat P W) → List (Attended P W) → Type 0
  AreLeftBy tries seats left = EachAt (IsLeftAt tries seats) left
