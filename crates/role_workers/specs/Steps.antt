-- The steps of a worker, and the events of each.
use Rattle.std.specs.Prelude.{ℕ, Bool, true, false, List, [], ◌∷◌, ◌++◌, Option, None, is_none}
use Rattle.desk_calls.specs.declared.due.Due.TheVariants.{Owe, Hold, Over}
use Rattle.desk_calls.specs.declared.due.Owed.{Owed}
use Rattle.desk_calls.specs.declared.answer.Answer.{Answer}
use Rattle.desk_calls.specs.declared.answer.Answer.TheVariants.{Text, Silent, Broken}
use Rattle.desk_calls.specs.declared.call.Call.{Call}
use Rattle.desk_calls.specs.declared.call.Call.TheVariants.{Next, Submit, Miss}
use Rattle.desk_calls.specs.declared.call.Reply.{Reply}
use Rattle.desk_calls.specs.declared.call.Reply.TheVariants.{Due}
use Rattle.match_messages.specs.BriefValue.{BriefValue}
use Rattle.match_messages.specs.MessageText.{message_text}
use Rattle.role_workers.specs.declared.attend_fault.AttendFault.{AttendFault}
use Rattle.match_messages.specs.Handing.{seconds_for}
use Rattle.role_workers.specs.Events.{Event, makes, takes, hands}
use Rattle.role_workers.specs.AttendFaults.{next_fault, answer_fault}

-- the call that gives the desk a player's answer for a round
abbrev pub answer_call : List ℕ → ℕ → ℕ → Answer → Call
answer_call id role round (Text text) = Submit id role round text
answer_call id role round Silent = Miss id role round false
answer_call id role round Broken = Miss id role round true

-- the worker asks what the match owes to the role, and this reply comes
abbrev pub asking : BriefValue → ℕ → Reply → List Event
asking brief role reply = makes (Next brief.id role) ∷ takes reply ∷ []

-- the worker sends the owed message once; then it gives the desk the answer in one call for the message's round, and this reply comes
abbrev pub handing_over : BriefValue → ℕ → ℕ → Owed → Answer → Reply → List Event
handing_over brief role round owed answer reply =
    hands (record { seconds = seconds_for brief owed; body = message_text brief role owed; answer = answer })
    ∷ makes (answer_call brief.id role round answer) ∷ takes reply ∷ []

-- A step: the worker asks what the match owes to the role, and does what the reply says.
pub data Step : Type 0 where
  -- the player waits
  rests : (round : ℕ) → Step
  hands_over : (round : ℕ) (owed : Owed) (answer : Answer) (reply : Reply) → Step
  -- the match is over
  finds_the_end : Step
  -- the reply does not say what is due
  finds_no_due : (reply : Reply) → Step

abbrev pub events_of : BriefValue → ℕ → Step → List Event
events_of brief role (rests round) = asking brief role (Due (Hold round))
events_of brief role (hands_over round owed answer reply) = asking brief role (Due (Owe round owed)) ++ handing_over brief role round owed answer reply
events_of brief role finds_the_end = asking brief role (Due Over)
events_of brief role (finds_no_due reply) = asking brief role reply

-- the error that stops the worker after this step
abbrev pub fault_after : Step → Option AttendFault
fault_after (rests round) = None
fault_after (hands_over round owed answer reply) = answer_fault reply
fault_after finds_the_end = None
fault_after (finds_no_due reply) = next_fault reply

-- the worker continues after this step
abbrev pub goes_on : Step → Bool
goes_on (rests round) = true
goes_on (hands_over round owed answer reply) = is_none (answer_fault reply)
goes_on finds_the_end = false
goes_on (finds_no_due reply) = false
