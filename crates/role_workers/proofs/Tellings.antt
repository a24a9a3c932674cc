-- Each event adds to what the wire and the player show.
use Rattle.std.proofs.Common.{◌≡◌, List, [], ◌++◌, Option, None, Some, inl, inr, refl, ap, sym, subst, ◌∙◌, append_assoc, append-nil}
use Rattle.std.specs.List.{filter_map}
use Rattle.std.proofs.lemmas.List.Elements.{filter_map-append}
use Rattle.call_history.specs.Told.{told_with}
use Rattle.desk_calls.specs.declared.call.Call.{Call}
use Rattle.desk_calls.specs.declared.call.Reply.{Reply}
use Rattle.match_messages.specs.Handing.{Handed, MayKeep}
use Rattle.role_workers.specs.Events.{Event, call_in, reply_in, message_in, Telling, telling, Tells}

pub told_with-nil : {A : Type 0} (told : Option (List A)) → told ≡ told_with told []
told_with-nil None = refl
told_with-nil (Some before) = ap Some (sym (append-nil before))

told_with-append : {A : Type 0} (told : Option (List A)) (xs ys : List A) → told_with (told_with told xs) ys ≡ told_with told (xs ++ ys)
told_with-append None xs ys = refl
told_with-append (Some before) xs ys = ap Some (append_assoc before xs ys)

pub same_telling : (calls calls' : Option (List Call)) (replies replies' : Option (List Reply)) (messages messages' : Option (List Handed))
    → calls ≡ calls' → replies ≡ replies' → messages ≡ messages' → telling calls replies messages ≡ telling calls' replies' messages'
same_telling calls calls' replies replies' messages messages' c r m =
    ap (λ x. telling x replies messages) c ∙ ap (λ x. telling calls' x messages) r ∙ ap (λ x. telling calls' replies' x) m

pub keeps-nil : (told : Option (List Handed)) → MayKeep told told []
keeps-nil told = inl (told_with-nil told)

keeps-append : (a b c : Option (List Handed)) (xs ys : List Handed) → MayKeep a b xs → MayKeep b c ys → MayKeep a c (xs ++ ys)
keeps-append a b c xs ys one (inr lost) = inr lost
keeps-append a b c xs ys (inl kept) (inl more) = inl (more ∙ ap (λ t. told_with t ys) kept ∙ told_with-append a xs ys)
keeps-append a b c xs ys (inr lost) (inl more) = inr (more ∙ ap (λ t. told_with t ys) lost)

-- if a player still shows its messages, it shows all of them
pub kept_all : (before after : Option (List Handed)) (old new messages : List Handed) → before ≡ Some old → after ≡ Some new → MayKeep before after messages → new ≡ old ++ messages
kept_all before after old new messages is_old is_new (inl kept) = let more : told_with before messages ≡ Some (old ++ messages) = ap (λ t. told_with t messages) is_old in cc
kept_all before after old new messages is_old is_new (inr lost) = absurd cc

pub tells-nil : (t : Telling) → Tells t t []
tells-nil t = record { calls = told_with-nil t.calls; replies = told_with-nil t.replies; messages = keeps-nil t.messages }

told_parts : {A : Type 0} (part : Event → Option A) (a b c : Option (List A)) (xs ys : List Event)
    → b ≡ told_with a (filter_map part xs) → c ≡ told_with b (filter_map part ys) → c ≡ told_with a (filter_map part (xs ++ ys))
told_parts part a b c xs ys one more =
    more ∙ ap (λ t. told_with t (filter_map part ys)) one ∙ told_with-append a (filter_map part xs) (filter_map part ys) ∙ sym (ap (told_with a) (filter_map-append part xs ys))

pub told_after : (before now after : Telling) (xs ys : List Event) → Tells before now xs → Tells now after ys → Tells before after (xs ++ ys)
told_after before now after xs ys first then = record {
  calls = told_parts call_in before.calls now.calls after.calls xs ys first.calls then.calls;
  replies = told_parts reply_in before.replies now.replies after.replies xs ys first.replies then.replies;
  messages = subst (MayKeep before.messages after.messages) (sym (filter_map-append message_in xs ys))
      (keeps-append before.messages now.messages after.messages (filter_map message_in xs) (filter_map message_in ys) first.messages then.messages);
}
