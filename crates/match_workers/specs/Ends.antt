-- How attending the roles of a match ended.
use Rattle.std.specs.Prelude.{◌≡◌, ℕ, List, [], length, Option, Some, Result, IsOk, slice_get}
use mathlib.Core.List.{IsPrefix}
use Rattle.call_history.specs.declared.journal.Entry.{Entry}
use Rattle.call_history.specs.Parts.{part, calls_of, replies_of}
use Rattle.desk_calls.specs.declared.call.Call.{Call}
use Rattle.desk_calls.specs.declared.call.Reply.{Reply}
use Rattle.match_messages.specs.BriefValue.{BriefValue}
use Rattle.role_workers.specs.declared.attend_fault.AttendFault.{AttendFault}
use Rattle.match_messages.specs.Handing.{Handed}
use Rattle.role_workers.specs.Attendances.{HasEnded}
use Rattle.role_workers.specs.Events.{telling}
use Rattle.role_workers.specs.RoleLines.{line_of}
use Rattle.role_workers.specs.Places.{EachAt}

-- A worker attended the role with this player over a line that has these entries in the history. `end` was the result, and
-- `player_left` is the player afterwards.
pub record IsEndOf {P : Type 0} (handed : P → Option (List Handed)) (brief : BriefValue) (tries role : ℕ) (player player_left : P) (entries : List (Entry Call Reply)) (end : Result ℕ AttendFault) : Type 0 where
  -- the replies to the worker: the first replies to its calls, or all of them if it found the end of the match
  pub replies : List Reply
  pub are_first : IsPrefix replies (replies_of entries)
  pub are_all : IsOk end → replies ≡ replies_of entries
  pub ended : HasEnded brief role tries
      (telling (Some []) (Some []) (handed player))
      (telling (Some (calls_of entries)) (Some replies) (handed player_left)) end

-- the result at this index belongs to the role, its player and its line
pub record IsEndAt {P : Type 0} (handed : P → Option (List Handed)) (brief : BriefValue) (tries : ℕ) (players left : List P) (history : List (Entry Call Reply)) (role : ℕ) (end : Result ℕ AttendFault) : Type 0 where
  pub player : P
  pub is_player : slice_get players role ≡ Some player
  pub player_left : P
  pub is_left : slice_get left role ≡ Some player_left
  pub is_end : IsEndOf handed brief tries role player player_left (part (line_of role) history) end

-- A worker attended each role with the player at its index, over the role's line. The results and the players afterwards are in the
-- order of the roles.
pub record AreEndsOf {P : Type 0} (handed : P → Option (List Handed)) (brief : BriefValue) (tries : ℕ) (players left : List P) (history : List (Entry Call Reply)) (ends : List (Result ℕ AttendFault)) : Type 0 where
  pub one_each : length left ≡ length ends
  pub each : EachAt (IsEndAt handed brief tries players left history) ends
