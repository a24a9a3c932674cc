-- Calls at which a worker stops, as events.
use Rattle.std.proofs.Common.{◌≡◌, ◌⊎◌, inl, inr, List, [], ◌∷◌, ◌++◌, Option, Some, refl, ap, ◌∙◌}
use Rattle.call_history.specs.Told.{told_with}
use Rattle.call_history.specs.declared.wire.AskFault.{AskFault}
use Rattle.desk_calls.specs.declared.due.Due.{Due}
use Rattle.desk_calls.specs.declared.call.Call.{Call}
use Rattle.desk_calls.specs.declared.call.Refusal.{Refusal}
use Rattle.desk_calls.specs.declared.call.Reply.{Reply}
use Rattle.desk_calls.specs.declared.call.Reply.TheVariants.{Opened, Due as IsDue, Taken, Status, Aborting, Refused}
use Rattle.role_workers.specs.declared.attend_fault.AttendFault.{AttendFault}
use Rattle.role_workers.specs.declared.attend_fault.AttendFault.TheVariants.{Stalled}
use Rattle.match_messages.specs.Handing.{Handed}
use Rattle.role_workers.specs.Events.{Event, makes, takes, Telling, telling, Tells}
use Rattle.role_workers.specs.AttendFaults.{attend_fault, next_fault}
use Rattle.role_workers.specs.Attending.{CallStops, not_made, without_reply, at_reply, StopsAmid, at_the_last, at_a_call, for_memory}
use Rattle.role_workers.proofs.Tellings.{told_with-nil, keeps-nil, told_after}

-- the worker stopped with this error during these events, for some reply as the last event
pub record StopsIn (whole : Reply → List Event) (fault_at : Reply → Option AttendFault) (fault : AttendFault) (before after : Telling) : Type 0 where
  pub reply : Reply
  pub events : List Event
  pub stops : StopsAmid (whole reply) (fault_at reply) fault events
  pub told : Tells before after events

abbrev pub then_calls : List Event → Call → Reply → List Event
then_calls front call reply = front ++ makes call ∷ takes reply ∷ []

told_call : (call : Call) (cs cs' : Option (List Call)) (rs rs' : Option (List Reply)) (ms : Option (List Handed))
    → cs' ≡ told_with cs (call ∷ []) → rs' ≡ rs → Tells (telling cs rs ms) (telling cs' rs' ms) (makes call ∷ [])
told_call call cs cs' rs rs' ms c r = record { calls = c; replies = r ∙ told_with-nil rs; messages = keeps-nil ms }

pub told_reply : (call : Call) (reply : Reply) (cs cs' : Option (List Call)) (rs rs' : Option (List Reply)) (ms : Option (List Handed))
    → cs' ≡ told_with cs (call ∷ []) → rs' ≡ told_with rs (reply ∷ []) → Tells (telling cs rs ms) (telling cs' rs' ms) (makes call ∷ takes reply ∷ [])
told_reply call reply cs cs' rs rs' ms c r = record { calls = c; replies = r; messages = keeps-nil ms }

-- what is shown if no call was made
told_no_call : (cs cs' : Option (List Call)) (rs rs' : Option (List Reply)) (ms : Option (List Handed)) (before : Telling) (events : List Event)
    → Tells before (telling cs rs ms) events → cs' ≡ cs → rs' ≡ rs → Tells before (telling cs' rs' ms) events
told_no_call cs cs' rs rs' ms before events so_far c r = record { calls = c ∙ so_far.calls; replies = r ∙ so_far.replies; messages = so_far.messages }

pub stops_in_call : (call : Call) (fault_at : Reply → Option AttendFault) (fault : AttendFault) (cs cs' : Option (List Call)) (rs rs' : Option (List Reply)) (ms : Option (List Handed)) (front : List Event) (before : Telling)
    → Tells before (telling cs rs ms) front → CallStops call fault_at fault cs cs' rs rs'
    → StopsIn (then_calls front call) fault_at fault before (telling cs' rs' ms)
stops_in_call call fault_at fault cs cs' rs rs' ms front before so_far (not_made is same none) = record {
  reply = Taken;
  events = front;
  stops = for_memory (makes call) (takes Taken ∷ []) is refl;
  told = told_no_call cs cs' rs rs' ms before front so_far same none;
}
stops_in_call call fault_at fault cs cs' rs rs' ms front before so_far (without_reply cause is (inl same) none) = record {
  reply = Taken;
  events = front;
  stops = at_a_call cause front call Taken [] is refl (inl refl);
  told = told_no_call cs cs' rs rs' ms before front so_far same none;
}
stops_in_call call fault_at fault cs cs' rs rs' ms front before so_far (without_reply cause is (inr one) none) = record {
  reply = Taken;
  events = front ++ makes call ∷ [];
  stops = at_a_call cause front call Taken [] is refl (inr refl);
  told = told_after before (telling cs rs ms) (telling cs' rs' ms) front (makes call ∷ []) so_far (told_call call cs cs' rs rs' ms one none);
}
stops_in_call call fault_at fault cs cs' rs rs' ms front before so_far (at_reply reply is c r) = record {
  reply = reply;
  events = front ++ makes call ∷ takes reply ∷ [];
  stops = at_the_last is refl;
  told = told_after before (telling cs rs ms) (telling cs' rs' ms) front (makes call ∷ takes reply ∷ []) so_far (told_reply call reply cs cs' rs rs' ms c r);
}

pub stray_reply : (reply : Reply) → ((due : Due) → reply ≡ IsDue due → ⊥) → ((reason : Refusal) → reply ≡ Refused reason → ⊥) → next_fault reply ≡ Some Stalled
stray_reply Opened not_due not_refused = refl
stray_reply (IsDue due) not_due not_refused = absurd (not_due due refl)
stray_reply Taken not_due not_refused = refl
stray_reply (Status status) not_due not_refused = refl
stray_reply Aborting not_due not_refused = refl
stray_reply (Refused reason) not_due not_refused = absurd (not_refused reason refl)

pub stops_without_reply : (call call' : Call) (fault_at : Reply → Option AttendFault) (fault : AttendFault) (cause : AskFault) (cs cs' : Option (List Call)) (rs rs' : Option (List Reply))
    → call' ≡ call → fault ≡ attend_fault cause → (cs' ≡ cs) ⊎ (cs' ≡ told_with cs (call' ∷ [])) → rs' ≡ rs → CallStops call fault_at fault cs cs' rs rs'
stops_without_reply call call' fault_at fault cause cs cs' rs rs' same is (inl none) r = without_reply cause is (inl none) r
stops_without_reply call call' fault_at fault cause cs cs' rs rs' same is (inr one) r = without_reply cause is (inr (one ∙ ap (λ x. told_with cs (x ∷ [])) same)) r

pub stops_at_reply : (call call' : Call) (fault_at : Reply → Option AttendFault) (fault : AttendFault) (reply : Reply) (cs cs' : Option (List Call)) (rs rs' : Option (List Reply))
    → call' ≡ call → fault_at reply ≡ Some fault → cs' ≡ told_with cs (call' ∷ []) → rs' ≡ told_with rs (reply ∷ []) → CallStops call fault_at fault cs cs' rs rs'
stops_at_reply call call' fault_at fault reply cs cs' rs rs' same is c r = at_reply reply is (c ∙ ap (λ x. told_with cs (x ∷ [])) same) r
