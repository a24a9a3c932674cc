-- How a worker attends a role.
use Rattle.std.specs.Prelude.{◌≡◌, ℕ, ◌+◌, ◌<◌, true, List, [], ◌∷◌, ◌++◌, length, All, Option, Some, ◌⊎◌}
use Rattle.std.specs.List.{flat_map, filter_map}
use Rattle.call_history.specs.Told.{told_with}
use Rattle.call_history.specs.declared.wire.AskFault.{AskFault}
use Rattle.desk_calls.specs.declared.call.Call.{Call}
use Rattle.desk_calls.specs.declared.call.Reply.{Reply}
use Rattle.match_messages.specs.BriefValue.{BriefValue}
use Rattle.role_workers.specs.declared.attend_fault.AttendFault.{AttendFault}
use Rattle.role_workers.specs.declared.attend_fault.AttendFault.TheVariants.{Stalled, Memory}
use Rattle.match_messages.specs.Handing.{Handed}
use Rattle.role_workers.specs.Events.{Event, makes, takes, message_in, Telling, Tells}
use Rattle.role_workers.specs.AttendFaults.{attend_fault}
use Rattle.role_workers.specs.Steps.{Step, finds_the_end, events_of, goes_on, fault_after}

abbrev pub events_of_all : BriefValue → ℕ → List Step → List Event
events_of_all brief role steps = flat_map (events_of brief role) steps

-- The worker attended the role to the end of the match, in at most this many tries: it made some steps that did not
-- stop it, and then the step that found the end. It sent this many messages.
pub record Attends (brief : BriefValue) (role tries : ℕ) (before after : Telling) (messages : ℕ) : Type 0 where
  pub steps : List Step
  pub go_on : All (λ step. goes_on step ≡ true) steps
  pub within : length steps < tries
  pub told : Tells before after (events_of_all brief role (steps ++ finds_the_end ∷ []))
  pub count : messages ≡ length (filter_map message_in (events_of_all brief role steps))

-- if a player still shows its messages, it shows as many new messages as the worker counted
abbrev pub MessagesAreCounted : Type 0
MessagesAreCounted = (brief : BriefValue) (role tries : ℕ) (before after : Telling) (messages : ℕ) (old new : List Handed)
    → Attends brief role tries before after messages → before.messages ≡ Some old → after.messages ≡ Some new → length new ≡ length old + messages

-- The events that had happened when the worker stopped with an error.
pub data StopsAmid (whole : List Event) (last_fault : Option AttendFault) (fault : AttendFault) (events : List Event) : Type 0 where
  -- all events: the last reply causes the error
  at_the_last : last_fault ≡ Some fault → events ≡ whole → StopsAmid whole last_fault fault events
  -- the events before a call that gets no reply; the call may or may not have been made
  at_a_call : (cause : AskFault) (front : List Event) (call : Call) (reply : Reply) (others : List Event)
      → fault ≡ attend_fault cause → front ++ makes call ∷ takes reply ∷ others ≡ whole
      → (events ≡ front) ⊎ (events ≡ front ++ makes call ∷ []) → StopsAmid whole last_fault fault events
  -- the events before the one that ran out of memory
  for_memory : (next : Event) (others : List Event) → fault ≡ Memory → events ++ next ∷ others ≡ whole → StopsAmid whole last_fault fault events

-- The worker stopped after these steps, and after these events of one more step.
pub data StopsAfter (brief : BriefValue) (role tries : ℕ) (steps : List Step) (fault : AttendFault) (events : List Event) : Type 0 where
  -- no tries are left
  out_of_tries : length steps ≡ tries → fault ≡ Stalled → events ≡ [] → StopsAfter brief role tries steps fault events
  -- a step that may be incomplete
  in_a_step : length steps < tries → (step : Step) → StopsAmid (events_of brief role step) (fault_after step) fault events
      → StopsAfter brief role tries steps fault events

-- The worker stopped early, after some complete steps and possibly part of one more step.
pub record StopsEarly (brief : BriefValue) (role tries : ℕ) (before after : Telling) (fault : AttendFault) : Type 0 where
  pub steps : List Step
  pub go_on : All (λ step. goes_on step ≡ true) steps
  pub events : List Event
  pub told : Tells before after (events_of_all brief role steps ++ events)
  pub why : StopsAfter brief role tries steps fault events

-- A call stopped the worker with this error, for one of three reasons: there is no memory for the call; no reply came, and the call may or
-- may not have been made; or the reply causes the error.
pub data CallStops (call : Call) (fault_at : Reply → Option AttendFault) (fault : AttendFault) (calls calls' : Option (List Call)) (replies replies' : Option (List Reply)) : Type 0 where
  not_made : fault ≡ Memory → calls' ≡ calls → replies' ≡ replies → CallStops call fault_at fault calls calls' replies replies'
  without_reply : (cause : AskFault) → fault ≡ attend_fault cause → (calls' ≡ calls) ⊎ (calls' ≡ told_with calls (call ∷ [])) → replies' ≡ replies
      → CallStops call fault_at fault calls calls' replies replies'
  at_reply : (reply : Reply) → fault_at reply ≡ Some fault → calls' ≡ told_with calls (call ∷ []) → replies' ≡ told_with replies (reply ∷ [])
      → CallStops call fault_at fault calls calls' replies replies'
