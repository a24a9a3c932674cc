-- Laws about the messages that the desk of a refereed match owed to each role.
use Rattle.std.specs.Prelude.{◌≡◌, ℕ, List, Option, Some, Result, Ok, slice_get}
use Rattle.std.specs.List.{filter_map}
use Rattle.game_core.specs.Play.{Rules}
use Rattle.call_history.specs.declared.journal.Entry.{Entry}
use Rattle.call_history.specs.Parts.{part, replies_of}
use Rattle.desk_calls.specs.declared.setup.Setup.{Setup}
use Rattle.desk_calls.specs.declared.call.Call.{Call}
use Rattle.desk_calls.specs.declared.call.Reply.{Reply}
use Rattle.match_book.specs.RoleMessages.{role_messages}
use Rattle.match_desk.specs.ManagerValue.{ManagerValue}
use Rattle.match_messages.specs.Handing.{Handed}
use Rattle.role_workers.specs.declared.attend_fault.AttendFault.{AttendFault}
use Rattle.role_workers.specs.RoleCalls.{owed_of}
use Rattle.role_workers.specs.RoleLines.{line_of}
use Rattle.match_workers.specs.Refereeing.{IsRefereed}

-- if the role's worker found the end of the match, the replies on the role's line owed exactly the role's messages in the match
abbrev pub RolesAreOwed : {G S M P : Type 0} → (G → Rules S M) → (P → Option (List Handed)) → Type 0
RolesAreOwed {G} {S} {M} {P} rules handed = (game : G) (setup : Setup) (printed : List ℕ) (tries : ℕ) (players left : List P) (d : ManagerValue G M) (history : List (Entry Call Reply)) (made_by_line : List ℕ)
    (ends : List (Result ℕ AttendFault)) (refereed : IsRefereed rules handed game setup printed tries players left d history made_by_line ends) (role count : ℕ)
    → slice_get ends role ≡ Some (Ok count) → filter_map owed_of (replies_of (part (line_of role) history)) ≡ role_messages (rules game) refereed.one_match.held role
