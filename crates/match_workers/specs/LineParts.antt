-- The calls on the lines of a match's desk. The first line opened the match; each other line asked and answered for one role.
use Rattle.std.specs.Prelude.{◌≡◌, ℕ, ◌<◌, List, [], ◌∷◌, All, length, slice_index_or}
use Rattle.call_history.specs.declared.journal.Entry.{Entry}
use Rattle.call_history.specs.Parts.{part, calls_of}
use Rattle.desk_calls.specs.declared.setup.Setup.{Setup}
use Rattle.desk_calls.specs.declared.call.Call.{Call}
use Rattle.desk_calls.specs.declared.call.Call.TheVariants.{Open}
use Rattle.desk_calls.specs.declared.call.Reply.{Reply}
use Rattle.desk_calls.specs.declared.call.Reply.TheVariants.{Opened}
use Rattle.role_workers.specs.RoleCalls.{IsRoleCall}
use Rattle.role_workers.specs.RoleLines.{line_of}

-- the call that opens a match of the desk's first game with this setup
abbrev pub open_call : Setup → Call
open_call setup = Open setup.id 0 setup.start setup.play setup.strikes setup.players

-- the first line made only this call, which opened the match
abbrev pub OpensMatch : Setup → List (Entry Call Reply) → Type 0
OpensMatch setup history = part 0 history ≡ record { line = 0; call = open_call setup; reply = Opened } ∷ []

-- each role's line made only calls of the role
abbrev pub AreRoleLines : List ℕ → ℕ → List (Entry Call Reply) → Type 0
AreRoleLines id roles history = (role : ℕ) → role < roles → All (IsRoleCall id role) (calls_of (part (line_of role) history))

-- the number of entries of each line
abbrev pub AreCounts : List (Entry Call Reply) → List ℕ → Type 0
AreCounts history made_by_line = (line : ℕ) → line < length made_by_line → slice_index_or made_by_line line 0 ≡ length (part line history)
