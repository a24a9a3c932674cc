-- The messages that are owed according to the replies to a worker.
use Rattle.std.proofs.Common.{◌≡◌, ℕ, true, List, [], ◌∷◌, ◌++◌, map, All, None, is_none, refl, ap, sym, subst, ◌∙◌, append-nil}
use Rattle.std.specs.List.{filter_map}
use Rattle.std.proofs.lemmas.List.{map-append}
use Rattle.std.proofs.lemmas.List.Elements.{All-head, All-tail, filter_map-append}
use Rattle.desk_calls.specs.declared.answer.Answer.{Answer}
use Rattle.desk_calls.specs.declared.due.Owed.{Owed}
use Rattle.desk_calls.specs.declared.call.Reply.{Reply}
use Rattle.desk_calls.specs.declared.call.Reply.TheVariants.{Opened, Due, Taken, Status, Aborting, Refused}
use Rattle.match_messages.specs.BriefValue.{BriefValue}
use Rattle.match_messages.specs.MessageText.{message_text}
use Rattle.match_messages.specs.Handing.{Handed, MayKeep, seconds_for}
use Rattle.role_workers.specs.Events.{Event, reply_in, message_in}
use Rattle.role_workers.specs.AttendFaults.{answer_fault}
use Rattle.role_workers.specs.Steps.{Step, rests, hands_over, finds_the_end, finds_no_due, events_of, goes_on}
use Rattle.role_workers.specs.Attending.{events_of_all}
use Rattle.role_workers.specs.RoleCalls.{owed_of}
use Rattle.role_workers.specs.Laws.{OwedAreHandedOver}
use Rattle.role_workers.proofs.HandedOver.{message_of}
use Rattle.role_workers.proofs.RoleCalls.{told_replies}
use Rattle.role_workers.proofs.Workers.{events_of_all-push}

owes_none : (reply : Reply) → is_none (answer_fault reply) ≡ true → owed_of reply ≡ None
owes_none Opened goes = refl
owes_none (Due due) goes = absurd cc
owes_none Taken goes = refl
owes_none (Status status) goes = refl
owes_none Aborting goes = refl
owes_none (Refused reason) goes = refl

abbrev owed_in : List Event → List Owed
owed_in events = filter_map owed_of (filter_map reply_in events)

owed_in-append : (xs ys : List Event) → owed_in (xs ++ ys) ≡ owed_in xs ++ owed_in ys
owed_in-append xs ys = ap (filter_map owed_of) (filter_map-append reply_in xs ys) ∙ filter_map-append owed_of (filter_map reply_in xs) (filter_map reply_in ys)

-- a value that a sent message has in common with the message that was owed
module _ {X : Type 0} (brief : BriefValue) (role : ℕ) (of_message : Handed → X) (of_owed : Owed → X) (same : (owed : Owed) (answer : Answer) → of_message (message_of brief role owed answer) ≡ of_owed owed) where
  step_owed : (step : Step) → goes_on step ≡ true → map of_message (filter_map message_in (events_of brief role step)) ≡ map of_owed (owed_in (events_of brief role step))
  step_owed (rests round) goes = refl
  step_owed (hands_over round owed answer reply) goes =
      ap (λ x. x ∷ []) (same owed answer) ∙ sym (ap (λ o. of_owed owed ∷ map of_owed (filter_map (λ x. x) (o ∷ []))) (owes_none reply goes))
  step_owed finds_the_end goes = absurd cc
  step_owed (finds_no_due reply) goes = absurd cc

  pub steps_owed : (steps : List Step) → All (λ step. goes_on step ≡ true) steps → map of_message (filter_map message_in (events_of_all brief role steps)) ≡ map of_owed (owed_in (events_of_all brief role steps))
  steps_owed [] all = refl
  steps_owed (step ∷ steps) all =
      let first = events_of brief role step in
      let later = events_of_all brief role steps in
      let one = step_owed step (All-head (λ s. goes_on s ≡ true) step steps all) in
      let others = steps_owed steps (All-tail (λ s. goes_on s ≡ true) step steps all) in
      ap (map of_message) (filter_map-append message_in first later)
      ∙ map-append of_message (filter_map message_in first) (filter_map message_in later)
      ∙ ap (λ xs. xs ++ map of_message (filter_map message_in later)) one
      ∙ ap (λ xs. map of_owed (owed_in first) ++ xs) others
      ∙ sym (map-append of_owed (owed_in first) (owed_in later))
      ∙ sym (ap (map of_owed) (owed_in-append first later))

pub owed_handed_over : OwedAreHandedOver
owed_handed_over brief role tries count calls calls' replies handed handed' ended =
    let events = events_of_all brief role ended.steps in
    let last = events_of brief role finds_the_end in
    let push = events_of_all-push brief role ended.steps finds_the_end in
    let told : replies ≡ filter_map reply_in (events_of_all brief role (ended.steps ++ finds_the_end ∷ [])) =
    told_replies brief role calls calls' replies handed handed' (events_of_all brief role (ended.steps ++ finds_the_end ∷ [])) ended.told in
    let messages = ap (filter_map message_in) push ∙ filter_map-append message_in events last ∙ append-nil (filter_map message_in events) in
    record {
      front = filter_map reply_in events;
      last = told ∙ ap (filter_map reply_in) push ∙ filter_map-append reply_in events last;
      messages = filter_map message_in events;
      count_is = sym ended.count;
      seconds_are = steps_owed brief role (λ m. m.seconds) (seconds_for brief) (λ owed answer. refl) ended.steps ended.go_on;
      bodies_are = steps_owed brief role (λ m. m.body) (message_text brief role) (λ owed answer. refl) ended.steps ended.go_on;
      kept = subst (MayKeep handed handed') messages ended.told.messages;
    }
