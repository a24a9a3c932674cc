-- The lines of the roles of a match, before and after the roles were attended.
use Rattle.std.specs.Prelude.{◌≡◌, ℕ, ◌+◌, ◌≤◌, List, [], length, Option, Some, Result, slice_get, Contains, All}
use mathlib.Core.List.{IsPrefix}
use Rattle.call_history.specs.declared.port.Port.{Port}
use Rattle.call_history.specs.RingLines.{LineValue, posted_calls, taken_replies, SameLine, IsNewLine}
use Rattle.desk_calls.specs.declared.call.Call.{Call}
use Rattle.desk_calls.specs.declared.call.Reply.{Reply}
use Rattle.match_messages.specs.BriefValue.{BriefValue}
use Rattle.role_workers.specs.declared.attend_fault.AttendFault.{AttendFault}
use Rattle.match_messages.specs.Handing.{Handed}
use Rattle.role_workers.specs.Events.{telling}
use Rattle.role_workers.specs.Attendances.{HasEnded}

-- the line of a role; the first line belongs to no role
abbrev pub line_of : ℕ → ℕ
line_of role = role + 1

module _ {C R : Type 0} where
  -- new lines of the desk, each for the role with its index
  abbrev pub AreSeatLines : List (Port C R) → List (LineValue C R) → Type 0
  AreSeatLines ports lines = (role : ℕ) (line : LineValue C R) → slice_get lines role ≡ Some line → IsNewLine ports (line_of role) line

  -- the end of this line: the line posted no more calls, and may have taken more replies
  pub record IsFinishedOf (line : LineValue C R) (end : LineValue C R) : Type 0 where
    pub same : SameLine line end
    pub posted : posted_calls end ≡ posted_calls line
    pub taken : IsPrefix (taken_replies line) (taken_replies end)

  -- the end of this line is in this list
  abbrev pub HasFinished : LineValue C R → List (LineValue C R) → Type 0
  HasFinished line ends = (end : LineValue C R) × Contains ends end × IsFinishedOf line end

  -- the end of the line with this index
  abbrev pub IsFinishedAt : List (LineValue C R) → ℕ → LineValue C R → Type 0
  IsFinishedAt lines k end = (line : LineValue C R) × (slice_get lines k ≡ Some line) × IsFinishedOf line end

  -- the end of each of these lines, at the same index
  pub record AreFinishedOf (lines : List (LineValue C R)) (ends : List (LineValue C R)) : Type 0 where
    pub one_each : length ends ≡ length lines
    pub each : (k : ℕ) (end : LineValue C R) → slice_get ends k ≡ Some end → IsFinishedAt lines k end

module _ {P : Type 0} (handed : P → Option (List Handed)) (brief : BriefValue) (tries : ℕ) (players left : List P) where
  -- a worker attended the role with the player at its index, over the line with this end
  pub record IsLeftLine (role : ℕ) (line : LineValue Call Reply) (end : Result ℕ AttendFault) : Type 0 where
    pub number : line.number ≡ line_of role
    pub player : P
    pub is_player : slice_get players role ≡ Some player
    -- the player afterwards
    pub player_left : P
    pub is_left : slice_get left role ≡ Some player_left
    -- the replies to the worker
    pub replies : List Reply
    pub are_first : IsPrefix replies (taken_replies line)
    pub ended : HasEnded brief role tries
        (telling (Some []) (Some []) (handed player))
        (telling (Some (posted_calls line)) (Some replies) (handed player_left)) end

  -- each role that has one of these results was attended over one of these lines
  pub record AreLeftLines (lines : List (LineValue Call Reply)) (ends : List (Result ℕ AttendFault)) : Type 0 where
    pub one_each : length left ≡ length ends
    pub each : (role : ℕ) (end : Result ℕ AttendFault) → slice_get ends role ≡ Some end
        → (line : LineValue Call Reply) × Contains lines line × IsLeftLine role line end
    -- each line belongs to a role that was attended, or is the first line
    pub within : All (λ line. line.number ≤ length ends) lines
