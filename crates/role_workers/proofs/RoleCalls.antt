-- The calls of a worker over its line.
use Rattle.std.proofs.Common.{◌≡◌, ℕ, List, [], ◌∷◌, ◌++◌, length, All, Option, Some, Result, Ok, Err, IsOk, unwrap_or, inl, inr, refl, ap, sym, ◌∙◌, subst, append_assoc, append-nil, length-append, arith}
use Rattle.std.specs.List.{filter_map}
use Rattle.std.proofs.lemmas.List.Elements.{All-nil, All-cons, All-append, All-head, All-tail, filter_map-append}
use Rattle.desk_calls.specs.declared.answer.Answer.{Answer}
use Rattle.desk_calls.specs.declared.answer.Answer.TheVariants.{Text, Silent, Broken}
use Rattle.desk_calls.specs.declared.call.Call.{Call}
use Rattle.desk_calls.specs.declared.call.Call.TheVariants.{Next}
use Rattle.desk_calls.specs.declared.call.Reply.{Reply}
use Rattle.match_messages.specs.BriefValue.{BriefValue}
use Rattle.role_workers.specs.declared.attend_fault.AttendFault.{AttendFault}
use Rattle.match_messages.specs.Handing.{Handed}
use Rattle.role_workers.specs.Events.{Event, makes, takes, call_in, reply_in, telling, Tells}
use Rattle.role_workers.specs.Steps.{answer_call, Step, rests, hands_over, finds_the_end, finds_no_due, events_of, fault_after}
use Rattle.role_workers.specs.Attending.{events_of_all, StopsAmid, at_the_last, at_a_call, for_memory, StopsAfter, out_of_tries, in_a_step}
use Rattle.role_workers.specs.RoleCalls.{IsRoleCall}
use Rattle.role_workers.specs.Attendances.{HasEnded}

pub all_front : {X : Type 0} (P : X → Type 0) (xs ys : List X) → All P (xs ++ ys) → All P xs
all_front P [] ys all = All-nil P
all_front P (x ∷ xs) ys all = All-cons P x xs (All-head P x (xs ++ ys) all) (all_front P xs ys (All-tail P x (xs ++ ys) all))

module _ (brief : BriefValue) (role : ℕ) where
  abbrev AreRoleEvents : List Event → Type 0
  AreRoleEvents events = All (IsRoleCall brief.id role) (filter_map call_in events)

  answers : (round : ℕ) (answer : Answer) → IsRoleCall brief.id role (answer_call brief.id role round answer)
  answers round (Text text) = (refl, refl)
  answers round Silent = (refl, refl)
  answers round Broken = (refl, refl)

  one_call : (call : Call) → IsRoleCall brief.id role call → All (IsRoleCall brief.id role) (call ∷ [])
  one_call call is = All-cons (IsRoleCall brief.id role) call [] is (All-nil (IsRoleCall brief.id role))

  step_calls : (step : Step) → AreRoleEvents (events_of brief role step)
  step_calls (rests round) = one_call (Next brief.id role) (refl, refl)
  step_calls (hands_over round owed answer reply) =
      All-cons (IsRoleCall brief.id role) (Next brief.id role) (answer_call brief.id role round answer ∷ []) (refl, refl) (one_call (answer_call brief.id role round answer) (answers round answer))
  step_calls finds_the_end = one_call (Next brief.id role) (refl, refl)
  step_calls (finds_no_due reply) = one_call (Next brief.id role) (refl, refl)

  both_calls : (xs ys : List Event) → AreRoleEvents xs → AreRoleEvents ys → AreRoleEvents (xs ++ ys)
  both_calls xs ys one other =
      subst (All (IsRoleCall brief.id role)) (sym (filter_map-append call_in xs ys)) (All-append (IsRoleCall brief.id role) (filter_map call_in xs) (filter_map call_in ys) one other)

  steps_calls : (steps : List Step) → AreRoleEvents (events_of_all brief role steps)
  steps_calls [] = All-nil (IsRoleCall brief.id role)
  steps_calls (step ∷ steps) = both_calls (events_of brief role step) (events_of_all brief role steps) (step_calls step) (steps_calls steps)

  front_calls : (xs ys : List Event) → AreRoleEvents (xs ++ ys) → AreRoleEvents xs
  front_calls xs ys all = all_front (IsRoleCall brief.id role) (filter_map call_in xs) (filter_map call_in ys) (subst (All (IsRoleCall brief.id role)) (filter_map-append call_in xs ys) all)

  amid_front : (whole : List Event) (last_fault : Option AttendFault) (fault : AttendFault) (events : List Event) → StopsAmid whole last_fault fault events → (others : List Event) × (events ++ others ≡ whole)
  amid_front whole last_fault fault events (at_the_last is all) = ([], append-nil events ∙ all)
  amid_front whole last_fault fault events (at_a_call cause front call reply others is part upto) =
      elim upto [
        | inl none ↦ (makes call ∷ takes reply ∷ others, ap (λ xs. xs ++ makes call ∷ takes reply ∷ others) none ∙ part)
        | inr one ↦ (takes reply ∷ others, ap (λ xs. xs ++ takes reply ∷ others) one ∙ append_assoc front (makes call ∷ []) (takes reply ∷ others) ∙ part)
      ]
  amid_front whole last_fault fault events (for_memory next others is part) = (next ∷ others, part)

  amid_calls : (step : Step) (last_fault : Option AttendFault) (fault : AttendFault) (events : List Event) → StopsAmid (events_of brief role step) last_fault fault events → AreRoleEvents events
  amid_calls step last_fault fault events stops =
      let front = amid_front (events_of brief role step) last_fault fault events stops in
      front_calls events front.0 (subst AreRoleEvents (sym front.1) (step_calls step))

  after_calls : (tries : ℕ) (steps : List Step) (fault : AttendFault) (events : List Event) → StopsAfter brief role tries steps fault events → AreRoleEvents events
  after_calls tries steps fault events (out_of_tries used is none) = subst AreRoleEvents (sym none) (All-nil (IsRoleCall brief.id role))
  after_calls tries steps fault events (in_a_step within step stops) = amid_calls step (fault_after step) fault events stops

  told_calls : (cs : List Call) (rs rs' : Option (List Reply)) (ms ms' : Option (List Handed)) (events : List Event)
      → Tells (telling (Some []) rs ms) (telling (Some cs) rs' ms') events → cs ≡ filter_map call_in events
  told_calls cs rs rs' ms ms' events told = ap (λ o. unwrap_or o []) told.calls

  pub told_replies : (cs cs' : Option (List Call)) (rs : List Reply) (ms ms' : Option (List Handed)) (events : List Event)
      → Tells (telling cs (Some []) ms) (telling cs' (Some rs) ms') events → rs ≡ filter_map reply_in events
  told_replies cs cs' rs ms ms' events told = ap (λ o. unwrap_or o []) told.replies

  pub role_calls : (tries : ℕ) (cs : List Call) (rs rs' : Option (List Reply)) (ms ms' : Option (List Handed)) (end : Result ℕ AttendFault)
      → HasEnded brief role tries (telling (Some []) rs ms) (telling (Some cs) rs' ms') end → All (IsRoleCall brief.id role) cs
  role_calls tries cs rs rs' ms ms' (Ok messages) ended =
      subst (All (IsRoleCall brief.id role)) (sym (told_calls cs rs rs' ms ms' (events_of_all brief role (ended.steps ++ finds_the_end ∷ [])) ended.told)) (steps_calls (ended.steps ++ finds_the_end ∷ []))
  role_calls tries cs rs rs' ms ms' (Err fault) ended =
      subst (All (IsRoleCall brief.id role)) (sym (told_calls cs rs rs' ms ms' (events_of_all brief role ended.steps ++ ended.events) ended.told))
      (both_calls (events_of_all brief role ended.steps) ended.events (steps_calls ended.steps) (after_calls tries ended.steps fault ended.events ended.why))

  step_replies : (step : Step) → length (filter_map reply_in (events_of brief role step)) ≡ length (filter_map call_in (events_of brief role step))
  step_replies (rests round) = refl
  step_replies (hands_over round owed answer reply) = refl
  step_replies finds_the_end = refl
  step_replies (finds_no_due reply) = refl

  steps_replies : (steps : List Step) → length (filter_map reply_in (events_of_all brief role steps)) ≡ length (filter_map call_in (events_of_all brief role steps))
  steps_replies [] = refl
  steps_replies (step ∷ steps) =
      let first = events_of brief role step in
      let later = events_of_all brief role steps in
      omega (
        arith,
        step_replies step,
        steps_replies steps,
        ap length (filter_map-append reply_in first later),
        length-append (filter_map reply_in first) (filter_map reply_in later),
        ap length (filter_map-append call_in first later),
        length-append (filter_map call_in first) (filter_map call_in later),
      )

  pub all_replies : (tries : ℕ) (cs : List Call) (rs : List Reply) (ms ms' : Option (List Handed)) (end : Result ℕ AttendFault) → IsOk end
      → HasEnded brief role tries (telling (Some []) (Some []) ms) (telling (Some cs) (Some rs) ms') end → length rs ≡ length cs
  all_replies tries cs rs ms ms' (Ok messages) ok ended =
      let steps = ended.steps ++ finds_the_end ∷ [] in
      omega (arith, steps_replies steps, ap length (told_calls cs (Some []) (Some rs) ms ms' (events_of_all brief role steps) ended.told), ap length (told_replies (Some []) (Some cs) rs ms ms' (events_of_all brief role steps) ended.told))
  all_replies tries cs rs ms ms' (Err fault) ok ended = absurd cc
