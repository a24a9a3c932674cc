-- The calls of a worker, and the messages that their replies owe.
use Rattle.std.specs.Prelude.{◌≡◌, ℕ, List, Option, Some, None}
use Rattle.desk_calls.specs.declared.due.Owed.{Owed}
use Rattle.desk_calls.specs.declared.due.Due.TheVariants.{Owe}
use Rattle.desk_calls.specs.declared.call.Call.{Call}
use Rattle.desk_calls.specs.declared.call.Call.TheVariants.{Next, Submit, Miss}
use Rattle.desk_calls.specs.declared.call.Reply.{Reply}
use Rattle.desk_calls.specs.declared.call.Reply.TheVariants.{Due}

-- the call asks what the match with this id owes to this role, or contains the role's answer
abbrev pub IsRoleCall : List ℕ → ℕ → Call → Type 0
IsRoleCall id role (Next match asked) = (match ≡ id) × (asked ≡ role)
IsRoleCall id role (Submit match answering round text) = (match ≡ id) × (answering ≡ role)
IsRoleCall id role (Miss match answering round broken) = (match ≡ id) × (answering ≡ role)
IsRoleCall id role _ = ⊥

-- the message in the reply, if the reply contains one
abbrev pub owed_of : Reply → Option Owed
owed_of (Due (Owe round owed)) = Some owed
owed_of _ = None

-- the round of the message
abbrev pub due_round : Reply → Option ℕ
due_round (Due (Owe round owed)) = Some round
due_round _ = None
