-- A worker's steps, one after another.
use Rattle.std.proofs.Common.{◌≡◌, ℕ, ◌+◌, ◌<◌, true, is_none, List, [], ◌∷◌, ◌++◌, length, All, Option, None, inl, inr, refl, ap, sym, subst, ◌∙◌, append_assoc, append-nil, length-append, arith}
use Rattle.std.specs.List.{filter_map}
use Rattle.call_history.specs.Told.{told_with}
use Rattle.std.proofs.lemmas.List.Concat.{flat_map-append}
use Rattle.std.proofs.lemmas.List.Elements.{All-push, filter_map-append}
use Rattle.std.proofs.lemmas.Grind.{common_steps}
use Rattle.desk_calls.specs.declared.answer.Answer.{Answer}
use Rattle.desk_calls.specs.declared.due.Owed.{Owed}
use Rattle.desk_calls.specs.declared.due.Due.{Due}
use Rattle.desk_calls.specs.declared.due.Due.TheVariants.{Owe, Hold, Over}
use Rattle.desk_calls.specs.declared.call.Call.{Call}
use Rattle.desk_calls.specs.declared.call.Call.TheVariants.{Next}
use Rattle.desk_calls.specs.declared.call.Reply.{Reply}
use Rattle.desk_calls.specs.declared.call.Reply.TheVariants.{Due as IsDue}
use Rattle.match_messages.specs.BriefValue.{BriefValue}
use Rattle.role_workers.specs.declared.attend_fault.AttendFault.{AttendFault}
use Rattle.role_workers.specs.declared.attend_fault.AttendFault.TheVariants.{Stalled}
use Rattle.match_messages.specs.Handing.{Handed}
use Rattle.role_workers.specs.Events.{Event, makes, takes, message_in, Telling, telling, Tells}
use Rattle.role_workers.specs.AttendFaults.{next_fault, answer_fault}
use Rattle.role_workers.specs.Steps.{asking, handing_over, Step, rests, hands_over, finds_the_end, finds_no_due, events_of, goes_on, fault_after}
use Rattle.role_workers.specs.Attending.{events_of_all, Attends, StopsAmid, at_the_last, at_a_call, for_memory, out_of_tries, in_a_step, StopsEarly, CallStops, MessagesAreCounted}
use Rattle.role_workers.proofs.Tellings.{tells-nil, told_after, kept_all}
use Rattle.role_workers.proofs.CallStops.{stops_in_call, told_reply}

-- the worker has not stopped after this many tries, and has sent this many messages
pub record Goes (brief : BriefValue) (role : ℕ) (tried : ℕ) (before now : Telling) (messages : ℕ) : Type 0 where
  pub steps : List Step
  pub go_on : All (λ step. goes_on step ≡ true) steps
  pub tries : length steps ≡ tried
  pub told : Tells before now (events_of_all brief role steps)
  pub count : messages ≡ length (filter_map message_in (events_of_all brief role steps))

pub goes-start : (brief : BriefValue) (role : ℕ) (before : Telling) → Goes brief role 0 before before 0
goes-start brief role before = record { steps = []; go_on = grind (arith, common_steps); tries = refl; told = tells-nil before; count = refl }

pub events_of_all-push : (brief : BriefValue) (role : ℕ) (steps : List Step) (last : Step) → events_of_all brief role (steps ++ last ∷ []) ≡ events_of_all brief role steps ++ events_of brief role last
events_of_all-push brief role steps last =
    flat_map-append (events_of brief role) steps (last ∷ []) ∙ ap (λ events. events_of_all brief role steps ++ events) (append-nil (events_of brief role last))

told_step : (brief : BriefValue) (role : ℕ) (before now next : Telling) (steps : List Step) (last : Step) → Tells before now (events_of_all brief role steps) → Tells now next (events_of brief role last)
    → Tells before next (events_of_all brief role (steps ++ last ∷ []))
told_step brief role before now next steps last told more =
    subst (Tells before next) (sym (events_of_all-push brief role steps last)) (told_after before now next (events_of_all brief role steps) (events_of brief role last) told more)

messages_in-append : (xs ys : List Event) → length (filter_map message_in (xs ++ ys)) ≡ length (filter_map message_in xs) + length (filter_map message_in ys)
messages_in-append xs ys = ap length (filter_map-append message_in xs ys) ∙ length-append (filter_map message_in xs) (filter_map message_in ys)

goes-more : (brief : BriefValue) (role tried : ℕ) (before now next : Telling) (messages more : ℕ) (last : Step) → Goes brief role tried before now messages → goes_on last ≡ true → Tells now next (events_of brief role last)
    → more ≡ messages + length (filter_map message_in (events_of brief role last)) → Goes brief role (tried + 1) before next more
goes-more brief role tried before now next messages more last goes on told count = record {
  steps = goes.steps ++ last ∷ [];
  go_on = All-push (λ step. goes_on step ≡ true) goes.steps last goes.go_on on;
  tries = length-append goes.steps (last ∷ []) ∙ ap (λ n. n + 1) goes.tries;
  told = told_step brief role before now next goes.steps last goes.told told;
  count = count ∙ ap (λ n. n + length (filter_map message_in (events_of brief role last))) goes.count
      ∙ sym (messages_in-append (events_of_all brief role goes.steps) (events_of brief role last))
      ∙ sym (ap (λ events. length (filter_map message_in events)) (events_of_all-push brief role goes.steps last));
}

-- what the wire and the player show after the worker has asked what is due
told_due : (brief : BriefValue) (role : ℕ) (due due' : Due) (cs cs' : Option (List Call)) (rs rs' : Option (List Reply)) (ms : Option (List Handed))
    → due ≡ due' → cs' ≡ told_with cs (Next brief.id role ∷ []) → rs' ≡ told_with rs (IsDue due ∷ []) → Tells (telling cs rs ms) (telling cs' rs' ms) (asking brief role (IsDue due'))
told_due brief role due due' cs cs' rs rs' ms is c r = told_reply (Next brief.id role) (IsDue due') cs cs' rs rs' ms c (r ∙ ap (λ x. told_with rs (IsDue x ∷ [])) is)

-- the player waited
pub goes-rests : (brief : BriefValue) (role tried round : ℕ) (due : Due) (before : Telling) (cs cs' : Option (List Call)) (rs rs' : Option (List Reply)) (ms ms' : Option (List Handed)) (messages : ℕ)
    → Goes brief role tried before (telling cs rs ms) messages → due ≡ Hold round → cs' ≡ told_with cs (Next brief.id role ∷ []) → rs' ≡ told_with rs (IsDue due ∷ []) → ms' ≡ ms
    → Goes brief role (tried + 1) before (telling cs' rs' ms') messages
goes-rests brief role tried round due before cs cs' rs rs' ms ms' messages goes is c r m =
    goes-more brief role tried before (telling cs rs ms) (telling cs' rs' ms') messages messages (rests round) goes refl
    (subst (λ x. Tells (telling cs rs ms) (telling cs' rs' x) (asking brief role (IsDue (Hold round)))) (sym m) (told_due brief role due (Hold round) cs cs' rs rs' ms is c r)) (omega arith)

pub goes-hands_over : (brief : BriefValue) (role tried round : ℕ) (owed : Owed) (due : Due) (before : Telling) (cs cs' : Option (List Call)) (rs rs' : Option (List Reply)) (ms : Option (List Handed)) (next : Telling) (messages : ℕ)
    → Goes brief role tried before (telling cs rs ms) messages → due ≡ Owe round owed → cs' ≡ told_with cs (Next brief.id role ∷ []) → rs' ≡ told_with rs (IsDue due ∷ [])
    → ((answer : Answer) × (reply : Reply) × (answer_fault reply ≡ None) × Tells (telling cs' rs' ms) next (handing_over brief role round owed answer reply))
    → Goes brief role (tried + 1) before next (messages + 1)
goes-hands_over brief role tried round owed due before cs cs' rs rs' ms next messages goes is c r (answer, reply, on, told) =
    goes-more brief role tried before (telling cs rs ms) next messages (messages + 1) (hands_over round owed answer reply) goes (ap is_none on)
    (told_after (telling cs rs ms) (telling cs' rs' ms) next (asking brief role (IsDue (Owe round owed))) (handing_over brief role round owed answer reply)
    (told_due brief role due (Owe round owed) cs cs' rs rs' ms is c r) told)
    refl

pub attends-over : (brief : BriefValue) (role tried tries : ℕ) (due : Due) (before : Telling) (cs cs' : Option (List Call)) (rs rs' : Option (List Reply)) (ms : Option (List Handed)) (messages : ℕ)
    → Goes brief role tried before (telling cs rs ms) messages → tried < tries → due ≡ Over → cs' ≡ told_with cs (Next brief.id role ∷ []) → rs' ≡ told_with rs (IsDue due ∷ [])
    → Attends brief role tries before (telling cs' rs' ms) messages
attends-over brief role tried tries due before cs cs' rs rs' ms messages goes within is c r = record {
  steps = goes.steps;
  go_on = goes.go_on;
  within = omega (arith, goes.tries);
  told = told_step brief role before (telling cs rs ms) (telling cs' rs' ms) goes.steps finds_the_end goes.told (told_due brief role due Over cs cs' rs rs' ms is c r);
  count = goes.count;
}

pub stops-in : (brief : BriefValue) (role tried tries : ℕ) (before now next : Telling) (messages : ℕ) (step : Step) (fault : AttendFault) (events : List Event) → Goes brief role tried before now messages → tried < tries
    → StopsAmid (events_of brief role step) (fault_after step) fault events → Tells now next events → StopsEarly brief role tries before next fault
stops-in brief role tried tries before now next messages step fault events goes within stops told = record {
  steps = goes.steps;
  go_on = goes.go_on;
  events = events;
  told = told_after before now next (events_of_all brief role goes.steps) events goes.told told;
  why = in_a_step (omega (arith, goes.tries)) step stops;
}

-- the worker has no tries left
pub stops-out_of_tries : (brief : BriefValue) (role tried tries : ℕ) (before now : Telling) (messages : ℕ) → Goes brief role tried before now messages → tried ≡ tries → StopsEarly brief role tries before now Stalled
stops-out_of_tries brief role tried tries before now messages goes used = record {
  steps = goes.steps;
  go_on = goes.go_on;
  events = [];
  told = subst (Tells before now) (sym (append-nil (events_of_all brief role goes.steps))) goes.told;
  why = out_of_tries (goes.tries ∙ used) refl refl;
}

stops_behind : (front whole : List Event) (last_fault : Option AttendFault) (fault : AttendFault) (events : List Event) → StopsAmid whole last_fault fault events → StopsAmid (front ++ whole) last_fault fault (front ++ events)
stops_behind front whole last_fault fault events (at_the_last is all) = at_the_last is (ap (λ xs. front ++ xs) all)
stops_behind front whole last_fault fault events (at_a_call cause before call reply others is part upto) =
    at_a_call cause (front ++ before) call reply others is (append_assoc front before (makes call ∷ takes reply ∷ others) ∙ ap (λ xs. front ++ xs) part)
    (elim upto [ inl none ↦ inl (ap (λ xs. front ++ xs) none) | inr one ↦ inr (ap (λ xs. front ++ xs) one ∙ sym (append_assoc front before (makes call ∷ []))) ])
stops_behind front whole last_fault fault events (for_memory next others is part) =
    for_memory next others is (append_assoc front events (next ∷ others) ∙ ap (λ xs. front ++ xs) part)

-- the worker stops while it asks what is due
pub stops-asking : (brief : BriefValue) (role tried tries : ℕ) (before : Telling) (cs cs' : Option (List Call)) (rs rs' : Option (List Reply)) (ms : Option (List Handed)) (messages : ℕ) (fault : AttendFault)
    → Goes brief role tried before (telling cs rs ms) messages → tried < tries → CallStops (Next brief.id role) next_fault fault cs cs' rs rs' → StopsEarly brief role tries before (telling cs' rs' ms) fault
stops-asking brief role tried tries before cs cs' rs rs' ms messages fault goes within stops =
    let s = stops_in_call (Next brief.id role) next_fault fault cs cs' rs rs' ms [] (telling cs rs ms) (tells-nil (telling cs rs ms)) stops in
    stops-in brief role tried tries before (telling cs rs ms) (telling cs' rs' ms) messages (finds_no_due s.reply) fault s.events goes within s.stops s.told

pub stops-handing : (brief : BriefValue) (role tried tries round : ℕ) (owed : Owed) (due : Due) (before : Telling) (cs cs' : Option (List Call)) (rs rs' : Option (List Reply)) (ms : Option (List Handed)) (next : Telling) (messages : ℕ) (fault : AttendFault)
    → Goes brief role tried before (telling cs rs ms) messages → tried < tries → due ≡ Owe round owed → cs' ≡ told_with cs (Next brief.id role ∷ []) → rs' ≡ told_with rs (IsDue due ∷ [])
    → ((answer : Answer) × (reply : Reply) × (events : List Event) × StopsAmid (handing_over brief role round owed answer reply) (answer_fault reply) fault events
    × Tells (telling cs' rs' ms) next events)
    → StopsEarly brief role tries before next fault
stops-handing brief role tried tries round owed due before cs cs' rs rs' ms next messages fault goes within is c r (answer, reply, events, stops, told) =
    let asked = asking brief role (IsDue (Owe round owed)) in
    stops-in brief role tried tries before (telling cs rs ms) next messages (hands_over round owed answer reply) fault (asked ++ events) goes within
    (stops_behind asked (handing_over brief role round owed answer reply) (answer_fault reply) fault events stops)
    (told_after (telling cs rs ms) (telling cs' rs' ms) next asked events (told_due brief role due (Owe round owed) cs cs' rs rs' ms is c r) told)

-- if a player still shows its messages, it shows as many new messages as the worker counted
pub messages_told : MessagesAreCounted
messages_told brief role tries before after messages old new attends shown_before shown =
    let events = events_of_all brief role attends.steps in
    let last = events_of brief role finds_the_end in
    let whole = events_of_all brief role (attends.steps ++ finds_the_end ∷ []) in
    let told = kept_all before.messages after.messages old new (filter_map message_in whole) shown_before shown attends.told.messages in
    let all = ap (λ es. length (filter_map message_in es)) (events_of_all-push brief role attends.steps finds_the_end) in
    omega (arith, ap length told, length-append old (filter_map message_in whole), all, messages_in-append events last, attends.count)
