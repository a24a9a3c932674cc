-- Each line's part of the closed desk's history.
use Rattle.std.proofs.Common.{◌≡◌, ◌==◌, ℕ, ◌+◌, ◌<◌, ◌≤◌, true, ⊎_elim, List, [], ◌∷◌, ◌++◌, length, All, Option, Some, Result, Ok, ap, sym, subst, ◌∙◌, arith, append_assoc, append-nil, length-append, get_or}
use Rattle.std.specs.Prelude.{Contains}
use Rattle.std.proofs.lemmas.Option.{slice_get-get_or}
use Rattle.std.proofs.lemmas.List.{length-map}
use Rattle.std.proofs.lemmas.List.Elements.{All-contains, All-head, filter_passes}
use Rattle.std.proofs.lemmas.Grind.{common_steps}
use Rattle.std.proofs.lemmas.Bool.{cases_lt}
use mathlib.Core.List.{IsPrefix}
use Rattle.call_history.specs.declared.journal.Entry.{Entry}
use Rattle.call_history.specs.Parts.{part, calls_of, replies_of}
use Rattle.call_history.specs.declared.port.Port.{Port}
use Rattle.call_history.specs.Lines.{HasAll}
use Rattle.call_history.specs.RingLines.{LineValue, posted_calls, taken_replies, IsLineOf, AreEndsOf as DeskEnds}
use Rattle.call_history.specs.RingClosing.{end_numbers, HaveOwnCalls, HaveOwnReplies}
use Rattle.call_history.specs.RingLaws.{NumbersAreOfEnds}
use Rattle.desk_calls.specs.declared.setup.Setup.{Setup}
use Rattle.desk_calls.specs.declared.call.Call.{Call}
use Rattle.desk_calls.specs.declared.call.Reply.{Reply}
use Rattle.desk_calls.specs.declared.call.Reply.TheVariants.{Opened}
use Rattle.match_messages.specs.BriefValue.{BriefValue}
use Rattle.role_workers.specs.declared.attend_fault.AttendFault.{AttendFault}
use Rattle.match_messages.specs.Handing.{Handed}
use Rattle.role_workers.specs.Events.{telling}
use Rattle.role_workers.specs.Attendances.{HasEnded}
use Rattle.match_workers.specs.Ends.{IsEndOf, AreEndsOf}
use Rattle.role_workers.specs.RoleCalls.{IsRoleCall}
use Rattle.role_workers.specs.Laws.{CallsAreOfTheRole, CallsHaveReplies}
use Rattle.role_workers.specs.RoleLines.{line_of}
use Rattle.match_workers.specs.LineParts.{open_call, OpensMatch, AreRoleLines}
use Rattle.role_workers.specs.RoleLines.{HasFinished, IsLeftLine, AreLeftLines}

pub prefix_trans : {X : Type 0} (xs ys zs : List X) → IsPrefix xs ys → IsPrefix ys zs → IsPrefix xs zs
prefix_trans xs ys zs (more, one) (still, other) = (more ++ still, sym (append_assoc xs more still) ∙ ap (λ l. l ++ still) one ∙ other)

pub whole_prefix : {X : Type 0} (xs ys : List X) → IsPrefix xs ys → length xs ≡ length ys → xs ≡ ys
whole_prefix xs ys ([], is) long = sym (append-nil xs) ∙ is
whole_prefix xs ys (x ∷ more, is) long = absurd (omega (arith, ap length is, length-append xs (x ∷ more), long))

one_entry : (entries : List (Entry Call Reply)) (call : Call) (reply : Reply) → All (λ e. e.line ≡ 0) entries → call ∷ [] ≡ calls_of entries → IsPrefix (reply ∷ []) (replies_of entries)
    → entries ≡ record { line = 0; call = call; reply = reply } ∷ []
one_entry [] call reply on calls replies = absurd cc
one_entry (e ∷ f ∷ more) call reply on calls replies = absurd cc
one_entry (e ∷ []) call reply on calls (more, replies) =
    let line : e.line ≡ 0 = All-head (λ (x : Entry Call Reply). x.line ≡ 0) e [] on in
    let is_call : e.call ≡ call = cc in
    let is_reply : e.reply ≡ reply = cc in
    ap (λ l. record { line = l; call = e.call; reply = e.reply } ∷ []) line ∙ ap (λ x. record { line = 0; call = x; reply = e.reply } ∷ []) is_call
    ∙ ap (λ x. record { line = 0; call = call; reply = x } ∷ []) is_reply

line_is : (e : Entry Call Reply) (line : ℕ) → (e.line == line) ≡ true → e.line ≡ line
line_is e line is = grind (arith, common_steps, is)

part_lines : (line : ℕ) (history : List (Entry Call Reply)) → All (λ e. e.line ≡ line) (part line history)
part_lines line history = λ k d within. line_is (get_or (part line history) k d) line (filter_passes (λ (e : Entry Call Reply). e.line == line) history k d within)

pub opens_match : (setup : Setup) (history : List (Entry Call Reply)) (opened : LineValue Call Reply) (lines : List (LineValue Call Reply))
    → opened.number ≡ 0 → posted_calls opened ≡ open_call setup ∷ [] → taken_replies opened ≡ Opened ∷ [] → HasFinished opened lines
    → HaveOwnCalls history lines → HaveOwnReplies history lines → OpensMatch setup history
opens_match setup history opened lines number posted taken (end, among, finished) calls replies =
    let zeroth : end.number ≡ 0 = finished.same.0 ∙ number in
    let reply : IsPrefix (Opened ∷ []) (replies_of (part 0 history)) =
    prefix_trans (Opened ∷ []) (taken_replies end) (replies_of (part 0 history)) (subst (λ l. IsPrefix l (taken_replies end)) taken finished.taken) (replies 0 end among zeroth) in
    one_entry (part 0 history) (open_call setup) Opened (part_lines 0 history) (sym (calls 0 end among zeroth ∙ finished.posted ∙ posted)) reply

module _ {P : Type 0} (handed : P → Option (List Handed)) (brief : BriefValue) (tries : ℕ) (players players_left : List P) (history : List (Entry Call Reply)) (lines : List (LineValue Call Reply)) (ends : List (Result ℕ AttendFault))
    (left : AreLeftLines handed brief tries players players_left lines ends) (calls_are : HaveOwnCalls history lines) (replies_are : HaveOwnReplies history lines) where
  calls_at : (role : ℕ) (end : Result ℕ AttendFault) (line : LineValue Call Reply) → Contains lines line → IsLeftLine handed brief tries players players_left role line end → posted_calls line ≡ calls_of (part (line_of role) history)
  calls_at role end line among it = sym (calls_are (line_of role) line among it.number)

  replies_at : (role : ℕ) (end : Result ℕ AttendFault) (line : LineValue Call Reply) → Contains lines line → (it : IsLeftLine handed brief tries players players_left role line end) → IsPrefix it.replies (replies_of (part (line_of role) history))
  replies_at role end line among it =
      prefix_trans it.replies (taken_replies line) (replies_of (part (line_of role) history)) it.are_first (replies_are (line_of role) line among it.number)

  end_at : CallsHaveReplies → (role : ℕ) (end : Result ℕ AttendFault) (line : LineValue Call Reply) → Contains lines line → (it : IsLeftLine handed brief tries players players_left role line end) → IsEndOf handed brief tries role it.player it.player_left (part (line_of role) history) end
  end_at have_replies role end line among it =
      let entries = part (line_of role) history in
      let calls = calls_at role end line among it in
      let first = replies_at role end line among it in
      record {
        replies = it.replies;
        are_first = first;
        are_all = λ ok. whole_prefix it.replies (replies_of entries) first
            (omega (arith, have_replies brief role tries (posted_calls line) it.replies _ _ end ok it.ended, ap length calls, length-map entries (λ (e : Entry Call Reply). e.call), length-map entries (λ (e : Entry Call Reply). e.reply)));
        ended = subst (λ cs. HasEnded brief role tries (telling (Some []) (Some []) (handed it.player)) (record { calls = Some cs; replies = Some it.replies; messages = handed it.player_left }) end) calls it.ended;
      }

  pub ends_of : CallsHaveReplies → AreEndsOf handed brief tries players players_left history ends
  ends_of have_replies = record {
    one_each = left.one_each;
    each = λ role end at. let found = left.each role end at in record {
      player = found.2.player;
      is_player = found.2.is_player;
      player_left = found.2.player_left;
      is_left = found.2.is_left;
      is_end = end_at have_replies role end found.0 found.1 found.2;
    };
  }

  pub as_many : NumbersAreOfEnds Call Reply → (ports : List (Port Call Reply)) (roles : ℕ) → DeskEnds ports lines → length ports ≡ roles + 1 → HasAll (end_numbers lines) (length ports) → length ends ≡ roles
  as_many numbers ports roles of_desk count all =
      let last = numbers lines roles (all roles (omega (arith, count))) in
      let not_fewer : roles ≤ length ends = omega (arith, All-contains (λ e. e.number ≤ length ends) lines last.0 left.within last.1, last.2) in
      ⊎_elim
      (λ (less : roles < length ends).
      let end : Result ℕ AttendFault = get_or ends roles (Ok 0) in
      let found = left.each roles end (slice_get-get_or ends roles (Ok 0) less) in
      let line : IsLineOf ports found.0 = All-contains (IsLineOf ports) lines found.0 of_desk found.1 in
      absurd (omega (arith, line.within, found.2.number, count)))
      (λ not_more. omega (arith, not_fewer, not_more))
      (cases_lt roles (length ends))

  pub role_lines : CallsAreOfTheRole → (id : List ℕ) (roles : ℕ) → brief.id ≡ id → length ends ≡ roles → AreRoleLines id roles history
  role_lines of_the_role id roles same count role below =
      let end : Result ℕ AttendFault = get_or ends role (Ok 0) in
      let found = left.each role end (slice_get-get_or ends role (Ok 0) (omega (arith, below, count))) in
      let calls = of_the_role brief role tries (posted_calls found.0) _ _ _ _ end found.2.ended in
      subst (λ i. All (IsRoleCall i role) (calls_of (part (line_of role) history))) same (subst (All (IsRoleCall brief.id role)) (calls_at role end found.0 found.1 found.2) calls)
