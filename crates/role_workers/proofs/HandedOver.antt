-- A message that is sent, with the call that gives the desk its answer.
use Rattle.std.proofs.Common.{◌≡◌, ℕ, List, [], ◌∷◌, Option, None, Result, Ok, Err, OnOk, IfErr, refl, sym, subst}
use Rattle.call_history.specs.Told.{told_with}
use Rattle.desk_calls.specs.declared.answer.Answer.{Answer}
use Rattle.desk_calls.specs.declared.answer.Answer.TheVariants.{Silent}
use Rattle.desk_calls.specs.declared.due.Owed.{Owed}
use Rattle.desk_calls.specs.declared.call.Call.{Call}
use Rattle.desk_calls.specs.declared.call.Reply.{Reply}
use Rattle.desk_calls.specs.declared.call.Reply.TheVariants.{Taken}
use Rattle.match_messages.specs.BriefValue.{BriefValue}
use Rattle.match_messages.specs.MessageText.{message_text}
use Rattle.role_workers.specs.declared.attend_fault.AttendFault.{AttendFault}
use Rattle.role_workers.specs.declared.attend_fault.AttendFault.TheVariants.{Memory}
use Rattle.match_messages.specs.Handing.{Handed, MayKeep, seconds_for}
use Rattle.role_workers.specs.Events.{Event, makes, takes, hands, Telling, telling, Tells}
use Rattle.role_workers.specs.AttendFaults.{answer_fault}
use Rattle.role_workers.specs.Steps.{answer_call, handing_over}
use Rattle.role_workers.specs.Attending.{CallStops, StopsAmid, for_memory}
use Rattle.role_workers.proofs.Tellings.{told_with-nil, tells-nil, told_after}
use Rattle.role_workers.proofs.CallStops.{stops_in_call, told_reply}

abbrev handed : ℕ → List ℕ → Answer → Handed
handed seconds body answer = record { seconds = seconds; body = body; answer = answer }

-- the owed message, with the seconds of its kind
abbrev pub message_of : BriefValue → ℕ → Owed → Answer → Handed
message_of brief role owed answer = handed (seconds_for brief owed) (message_text brief role owed) answer

pub owed_message : (brief : BriefValue) (role : ℕ) (owed : Owed) (answer : Answer) (seconds : ℕ) (body : List ℕ) (ms ms' : Option (List Handed))
    → seconds ≡ seconds_for brief owed → body ≡ message_text brief role owed → MayKeep ms ms' (record { seconds = seconds; body = body; answer = answer } ∷ [])
    → MayKeep ms ms' (message_of brief role owed answer ∷ [])
owed_message brief role owed answer seconds body ms ms' s b m =
    subst (λ x. MayKeep ms ms' (handed (seconds_for brief owed) x answer ∷ [])) b (subst (λ x. MayKeep ms ms' (handed x body answer ∷ [])) s m)

told_message : (message : Handed) (cs : Option (List Call)) (rs : Option (List Reply)) (ms ms' : Option (List Handed))
    → MayKeep ms ms' (message ∷ []) → Tells (telling cs rs ms) (telling cs rs ms') (hands message ∷ [])
told_message message cs rs ms ms' m = record { calls = told_with-nil cs; replies = told_with-nil rs; messages = m }

-- there was no memory for the message, or for the message in one piece
pub nothing_handed : (brief : BriefValue) (role round : ℕ) (owed : Owed) (fault : AttendFault) (before after : Telling) → fault ≡ Memory → after ≡ before
    → (answer : Answer) × (reply : Reply) × (events : List Event) × StopsAmid (handing_over brief role round owed answer reply) (answer_fault reply) fault events × Tells before after events
nothing_handed brief role round owed fault before after is same =
    (Silent, Taken, [], for_memory (hands (message_of brief role owed Silent)) (makes (answer_call brief.id role round Silent) ∷ takes Taken ∷ []) is refl, subst (λ t. Tells before t []) (sym same) (tells-nil before))

pub handed_over : {U : Type 0} (given : Result U AttendFault) (brief : BriefValue) (role round : ℕ) (owed : Owed) (answer : Answer) (cs cs' : Option (List Call)) (rs rs' : Option (List Reply)) (ms ms' : Option (List Handed))
    → MayKeep ms ms' (message_of brief role owed answer ∷ [])
    → OnOk given (cs' ≡ told_with cs (answer_call brief.id role round answer ∷ []))
    → OnOk given ((reply : Reply) × (answer_fault reply ≡ None) × (rs' ≡ told_with rs (reply ∷ [])))
    → OnOk given ((answer : Answer) × (reply : Reply) × (answer_fault reply ≡ None) × Tells (telling cs rs ms) (telling cs' rs' ms') (handing_over brief role round owed answer reply))
handed_over (Ok done) brief role round owed answer cs cs' rs rs' ms ms' m call reply = (
  answer,
  reply.0,
  reply.1,
  told_after (telling cs rs ms) (telling cs rs ms') (telling cs' rs' ms') (hands (message_of brief role owed answer) ∷ []) (makes (answer_call brief.id role round answer) ∷ takes reply.0 ∷ [])
      (told_message (message_of brief role owed answer) cs rs ms ms' m) (told_reply (answer_call brief.id role round answer) reply.0 cs cs' rs rs' ms' call reply.2),
)
handed_over (Err fault) brief role round owed answer cs cs' rs rs' ms ms' m call reply = tt

-- the worker stopped while it gave the answer
pub handed_in_part : {U : Type 0} (given : Result U AttendFault) (brief : BriefValue) (role round : ℕ) (owed : Owed) (answer : Answer) (cs cs' : Option (List Call)) (rs rs' : Option (List Reply)) (ms ms' : Option (List Handed))
    → MayKeep ms ms' (message_of brief role owed answer ∷ [])
    → IfErr given (λ fault. CallStops (answer_call brief.id role round answer) answer_fault fault cs cs' rs rs')
    → IfErr given (λ fault. (answer : Answer) × (reply : Reply) × (events : List Event) × StopsAmid (handing_over brief role round owed answer reply) (answer_fault reply) fault events
    × Tells (telling cs rs ms) (telling cs' rs' ms') events)
handed_in_part (Ok done) brief role round owed answer cs cs' rs rs' ms ms' m stops = tt
handed_in_part (Err fault) brief role round owed answer cs cs' rs rs' ms ms' m stops =
    let s = stops_in_call (answer_call brief.id role round answer) answer_fault fault cs cs' rs rs' ms' (hands (message_of brief role owed answer) ∷ []) (telling cs rs ms)
    (told_message (message_of brief role owed answer) cs rs ms ms' m) stops in
    (answer, s.reply, s.events, s.stops, s.told)
