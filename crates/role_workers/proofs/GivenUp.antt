-- Roles that are given up, one after another.
use Rattle.std.proofs.Common.{◌≡◌, ℕ, List, [], ◌∷◌, ◌++◌, Some, None, map, refl, ap, sym, subst, ◌∙◌, append-nil}
use Rattle.std.specs.List.{flat_map}
use Rattle.std.proofs.lemmas.List.{map-append}
use Rattle.std.proofs.lemmas.List.Concat.{flat_map-append}
use Rattle.call_history.specs.declared.wire.Wire as Wire
use Rattle.call_history.specs.Told.{told_with}
use Rattle.desk_calls.specs.declared.answer.Answer.TheVariants.{Broken}
use Rattle.desk_calls.specs.declared.call.Call.{Call}
use Rattle.desk_calls.specs.declared.call.Call.TheVariants.{Abort}
use Rattle.desk_calls.specs.declared.call.Reply.{Reply}
use Rattle.role_workers.specs.Events.{Event, makes, takes, Telling, telling, Tells}
use Rattle.role_workers.specs.Steps.{answer_call, asking}
use Rattle.role_workers.specs.RoleCalls.{due_round}
use Rattle.role_workers.specs.Internal.GivenUp.{answering, GivenUp, aborting, giving_up, AreGivenUp}
use Rattle.role_workers.specs.declared.seats.Unattended.{Unattended}
use Rattle.role_workers.proofs.Tellings.{tells-nil, told_after}
use Rattle.role_workers.proofs.CallStops.{told_reply}

module _ {W : Type 0} (w : Wire.Ghosts W Call Reply) where
  abbrev shown : W → Telling
  shown wire = telling (w.calls wire) (w.replies wire) None

  pub none_given_up : (wire : W) → AreGivenUp w [] wire wire
  none_given_up wire = record { given = []; in_order = refl; told = tells-nil (shown wire) }

  pub more_given_up : (roles others : List Unattended) (first then last : W) → AreGivenUp w roles first then → AreGivenUp w others then last → AreGivenUp w (roles ++ others) first last
  more_given_up roles others first then last one other = record {
    given = one.given ++ other.given;
    in_order = map-append (λ (it : GivenUp). it.of) one.given other.given ∙ ap (λ xs. xs ++ map (λ (it : GivenUp). it.of) other.given) one.in_order ∙ ap (λ xs. roles ++ xs) other.in_order;
    told = subst (Tells (shown first) (shown last)) (sym (flat_map-append giving_up one.given other.given))
        (told_after (shown first) (shown then) (shown last) (flat_map giving_up one.given) (flat_map giving_up other.given) one.told other.told);
  }

  pub shown_call : (call call' : Call) (reply : Reply) (wire wire' : W) → call' ≡ call → w.calls wire' ≡ told_with (w.calls wire) (call' ∷ []) → w.replies wire' ≡ told_with (w.replies wire) (reply ∷ [])
      → Tells (shown wire) (shown wire') (makes call ∷ takes reply ∷ [])
  shown_call call call' reply wire wire' same calls replies =
      told_reply call reply (w.calls wire) (w.calls wire') (w.replies wire) (w.replies wire') None (calls ∙ ap (λ x. told_with (w.calls wire) (x ∷ [])) same) replies

  one_given_up : (it : GivenUp) (first last : W) (events : List Event) → events ≡ answering it.of.brief.now it.of.role (due_round it.due) it.answered
      → Tells (shown first) (shown last) (aborting it ++ events) → AreGivenUp w (it.of ∷ []) first last
  one_given_up it first last events are told = record {
    given = it ∷ [];
    in_order = refl;
    told = subst (Tells (shown first) (shown last)) (ap (λ es. aborting it ++ es) are ∙ sym (append-nil (giving_up it))) told;
  }

  shown_aborting : (it : GivenUp) (first then last : W) → Tells (shown first) (shown then) (makes (Abort it.of.brief.now.id) ∷ takes it.aborted ∷ [])
      → Tells (shown then) (shown last) (asking it.of.brief.now it.of.role it.due) → Tells (shown first) (shown last) (aborting it)
  shown_aborting it first then last aborted asked =
      told_after (shown first) (shown then) (shown last) (makes (Abort it.of.brief.now.id) ∷ takes it.aborted ∷ []) (asking it.of.brief.now it.of.role it.due) aborted asked

  -- a role to which no message is due
  pub gave_up : (of : Unattended) (aborted due : Reply) (first then last : W) → Tells (shown first) (shown then) (makes (Abort of.brief.now.id) ∷ takes aborted ∷ [])
      → Tells (shown then) (shown last) (asking of.brief.now of.role due) → due_round due ≡ None → AreGivenUp w (of ∷ []) first last
  gave_up of aborted due first then last abort next none =
      let it : GivenUp = record { of = of; aborted = aborted; due = due; answered = due } in
      one_given_up it first last [] (sym (ap (λ o. answering of.brief.now of.role o due) none))
      (subst (Tells (shown first) (shown last)) (sym (append-nil (aborting it))) (shown_aborting it first then last abort next))

  -- a role to which a message is due
  pub gave_up_due : (of : Unattended) (aborted due answered : Reply) (round : ℕ) (first then asked last : W) → Tells (shown first) (shown then) (makes (Abort of.brief.now.id) ∷ takes aborted ∷ [])
      → Tells (shown then) (shown asked) (asking of.brief.now of.role due) → due_round due ≡ Some round
      → Tells (shown asked) (shown last) (makes (answer_call of.brief.now.id of.role round Broken) ∷ takes answered ∷ []) → AreGivenUp w (of ∷ []) first last
  gave_up_due of aborted due answered round first then asked last abort next some answer =
      let it : GivenUp = record { of = of; aborted = aborted; due = due; answered = answered } in
      let events = makes (answer_call of.brief.now.id of.role round Broken) ∷ takes answered ∷ [] in
      one_given_up it first last events (sym (ap (λ o. answering of.brief.now of.role o answered) some))
      (told_after (shown first) (shown asked) (shown last) (aborting it) events (shown_aborting it first then asked abort next) answer)
