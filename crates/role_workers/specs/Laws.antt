-- Laws about the calls of a worker, their replies, and the messages that it sends.
use Rattle.std.specs.Prelude.{◌≡◌, ℕ, List, [], ◌∷◌, ◌++◌, All, length, map, Option, Some, Result, Ok, IsOk}
use Rattle.std.specs.List.{filter_map}
use Rattle.desk_calls.specs.declared.due.Due.TheVariants.{Over}
use Rattle.desk_calls.specs.declared.call.Call.{Call}
use Rattle.desk_calls.specs.declared.call.Reply.{Reply}
use Rattle.desk_calls.specs.declared.call.Reply.TheVariants.{Due}
use Rattle.match_messages.specs.BriefValue.{BriefValue}
use Rattle.role_workers.specs.declared.attend_fault.AttendFault.{AttendFault}
use Rattle.match_messages.specs.MessageText.{message_text}
use Rattle.match_messages.specs.Handing.{Handed, MayKeep, seconds_for}
use Rattle.role_workers.specs.Events.{telling}
use Rattle.role_workers.specs.Attendances.{HasEnded}
use Rattle.role_workers.specs.RoleCalls.{IsRoleCall, owed_of}

abbrev pub CallsAreOfTheRole : Type 0
CallsAreOfTheRole = (brief : BriefValue) (role tries : ℕ) (calls : List Call) (replies replies' : Option (List Reply)) (handed handed' : Option (List Handed)) (end : Result ℕ AttendFault)
    → HasEnded brief role tries (telling (Some []) replies handed) (telling (Some calls) replies' handed') end → All (IsRoleCall brief.id role) calls

abbrev pub CallsHaveReplies : Type 0
CallsHaveReplies = (brief : BriefValue) (role tries : ℕ) (calls : List Call) (replies : List Reply) (handed handed' : Option (List Handed)) (end : Result ℕ AttendFault) → IsOk end
    → HasEnded brief role tries (telling (Some []) (Some []) handed) (telling (Some calls) (Some replies) handed') end → length replies ≡ length calls

-- The messages that a worker sent before it found the end, given these replies.
pub record AreHandedOver (brief : BriefValue) (role count : ℕ) (replies : List Reply) (handed handed' : Option (List Handed)) : Type 0 where
  -- the last reply says that the match is over
  pub front : List Reply
  pub last : replies ≡ front ++ Due Over ∷ []
  -- exactly the messages that the other replies owe
  pub messages : List Handed
  pub count_is : length messages ≡ count
  pub seconds_are : map (λ m. m.seconds) messages ≡ map (seconds_for brief) (filter_map owed_of front)
  pub bodies_are : map (λ m. m.body) messages ≡ map (message_text brief role) (filter_map owed_of front)
  -- the player shows them, unless it no longer shows any messages
  pub kept : MayKeep handed handed' messages

-- a worker that found the end sent each message that the replies owed, once and in order
abbrev pub OwedAreHandedOver : Type 0
OwedAreHandedOver = (brief : BriefValue) (role tries count : ℕ) (calls calls' : Option (List Call)) (replies : List Reply) (handed handed' : Option (List Handed))
    → HasEnded brief role tries (telling calls (Some []) handed) (telling calls' (Some replies) handed') (Ok count)
    → AreHandedOver brief role count replies handed handed'
