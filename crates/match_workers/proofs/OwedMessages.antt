-- The replies on a role's line owe exactly the role's messages in the match.
use Rattle.std.proofs.Common.{◌≡◌, ◌≢◌, ◌==◌, ℕ, ◌+◌, ◌<◌, Bool, true, false, cond, List, [], ◌∷◌, ◌++◌, length, map, All, Option, Some, None, Ok, refl, sym, ap, subst, ◌∙◌, arith, append_assoc, append-nil}
use Rattle.std.specs.Prelude.{if◌then◌else◌, is_none, nat_lt, option_map, option_and_then, unwrap_or}
use Rattle.std.specs.List.{filter_map, cons_option}
use Rattle.std.proofs.lemmas.Bool.Decides.{nat_tests}
use Rattle.std.proofs.lemmas.List.Elements.{All-head, All-tail}
use Rattle.std.proofs.lemmas.Option.{slice_get_within}
use Rattle.std.proofs.lemmas.Slice.Eq.{bytes_eq-Decides}
use Rattle.game_core.specs.Play.{Rules}
use Rattle.call_history.specs.History.{run, IsLegalHistory}
use Rattle.call_history.specs.Parts.{part, calls_of, replies_of}
use Rattle.call_history.specs.declared.journal.Entry.{Entry}
use Rattle.desk_calls.specs.declared.answer.Answer.{Answer}
use Rattle.desk_calls.specs.declared.answer.Answer.TheVariants.{Text, Silent, Broken}
use Rattle.desk_calls.specs.declared.due.Due.TheVariants.{Owe, Hold, Over}
use Rattle.desk_calls.specs.declared.due.Owed.{Owed}
use Rattle.desk_calls.specs.declared.call.Call.{Call}
use Rattle.desk_calls.specs.declared.call.Call.TheVariants.{Open, Next, Submit, Miss, Query, Abort}
use Rattle.desk_calls.specs.declared.call.Refusal.TheVariants.{NoMatch, NoRole}
use Rattle.desk_calls.specs.declared.call.Reply.{Reply}
use Rattle.desk_calls.specs.declared.call.Reply.TheVariants.{Opened, Due, Taken, Status, Aborting, Refused}
use Rattle.desk_calls.specs.declared.setup.Setup.{Setup}
use Rattle.match_book.specs.Due.{due, owed_in, last_move_texts}
use Rattle.match_book.specs.Laws.{NewMatchIsLawful, AnswersKeepLawful, NoneIsAnswered, OwedIsAnswered, OthersAreUntouched, AllAreAnswered}
use Rattle.match_book.specs.Lawful.{IsLawfulMatch}
use Rattle.match_book.specs.MatchValue.{MatchValue}
use Rattle.match_book.specs.Phase.{stage, round, has_answered, is_over}
use Rattle.match_book.specs.RoleMessages.{role_messages, answered_messages}
use Rattle.match_book.specs.Steps.{new_match, after_answer}
use Rattle.match_desk.specs.ManagerValue.{ManagerValue, game_match, IsMatchOf}
use Rattle.match_desk.specs.Steps.{missed, next_reply, reply, after}
use Rattle.match_messages.specs.BriefValue.{BriefValue}
use Rattle.match_messages.specs.Handing.{Handed}
use Rattle.role_workers.specs.AttendFaults.{answer_fault}
use Rattle.role_workers.specs.Attending.{events_of_all}
use Rattle.role_workers.specs.Events.{call_in, reply_in}
use Rattle.role_workers.specs.RoleCalls.{IsRoleCall, owed_of}
use Rattle.role_workers.specs.RoleLines.{line_of}
use Rattle.role_workers.specs.Steps.{answer_call, Step, rests, hands_over, finds_the_end, finds_no_due, goes_on}
use Rattle.match_workers.specs.LineParts.{AreRoleLines}
use Rattle.match_workers.specs.Laws.{RolesAreOwed}
use Rattle.match_workers.proofs.OneMatch.{after_call, after_call-setup, later-role_lines, role_entry, IsAdmitted, with_one, role_call-one, after_opening}

-- the entries of a worker that makes these steps, and then the step that finds the end
record AreStepsOf (brief : BriefValue) (role : ℕ) (steps : List Step) (entries : List (Entry Call Reply)) : Type 0 where
  go_on : All (λ step. goes_on step ≡ true) steps
  calls : calls_of entries ≡ filter_map call_in (events_of_all brief role (steps ++ finds_the_end ∷ []))
  replies : replies_of entries ≡ filter_map reply_in (events_of_all brief role (steps ++ finds_the_end ∷ []))

abbrev owed_on : List (Entry Call Reply) → List Owed
owed_on entries = filter_map owed_of (replies_of entries)

owes_none : (reply : Reply) → is_none (answer_fault reply) ≡ true → owed_of reply ≡ None
owes_none Opened goes = refl
owes_none (Due due) goes = absurd cc
owes_none Taken goes = refl
owes_none (Status status) goes = refl
owes_none Aborting goes = refl
owes_none (Refused reason) goes = refl

no_calls : (entries : List (Entry Call Reply)) → calls_of entries ≡ [] → entries ≡ []
no_calls [] none = refl
no_calls (e ∷ es) none = absurd cc

-- a worker that finds the end has made a call
some_call : (brief : BriefValue) (role : ℕ) (steps : List Step) → AreStepsOf brief role steps [] → ⊥
some_call brief role [] of = let calls = of.calls in cc
some_call brief role (rests n ∷ steps) of = let calls = of.calls in cc
some_call brief role (hands_over n owed answer said ∷ steps) of = let calls = of.calls in cc
some_call brief role (finds_the_end ∷ steps) of = let calls = of.calls in cc
some_call brief role (finds_no_due said ∷ steps) of = let calls = of.calls in cc

admitted : (brief : BriefValue) (role : ℕ) (steps : List Step) (entries : List (Entry Call Reply)) → AreStepsOf brief role steps entries → IsAdmitted entries
admitted brief role steps [] of = tt
admitted brief role [] (e ∷ es) of = λ none. let replies = of.replies in let first : e.reply ≡ Due Over = cc in absurd cc
admitted brief role (rests n ∷ steps) (e ∷ es) of = λ none. let replies = of.replies in let first : e.reply ≡ Due (Hold n) = cc in absurd cc
admitted brief role (hands_over n owed answer said ∷ steps) (e ∷ es) of = λ none. let replies = of.replies in let first : e.reply ≡ Due (Owe n owed) = cc in absurd cc
admitted brief role (finds_the_end ∷ steps) (e ∷ es) of = let goes = All-head (λ s. goes_on s ≡ true) finds_the_end steps of.go_on in absurd cc
admitted brief role (finds_no_due said ∷ steps) (e ∷ es) of = let goes = All-head (λ s. goes_on s ≡ true) (finds_no_due said) steps of.go_on in absurd cc

-- The position of a role in a match: these entries of its line are still to come, and these are all messages that the role is owed.
data IsAt {S M : Type 0} (g : Rules S M) (brief : BriefValue) (role : ℕ) (messages : List Owed) (m : MatchValue M) (entries : List (Entry Call Reply)) : Type 0 where
  -- next, the worker asks what is due
  asks : (steps : List Step) → AreStepsOf brief role steps entries → messages ≡ answered_messages g m role ++ owed_on entries → IsAt g brief role messages m entries
  answers : (e : Entry Call Reply) (es : List (Entry Call Reply)) (n : ℕ) (owed : Owed) (answer : Answer) (steps : List Step) → entries ≡ e ∷ es → e.call ≡ answer_call brief.id role n answer → owed_of e.reply ≡ None
      → AreStepsOf brief role steps es → due g m role ≡ Owe n owed → messages ≡ (answered_messages g m role ++ owed ∷ []) ++ owed_on es → IsAt g brief role messages m entries
  found : entries ≡ [] → is_over g m ≡ true → messages ≡ answered_messages g m role → IsAt g brief role messages m entries

over_is : {S M : Type 0} (g : Rules S M) (m : MatchValue M) (role : ℕ) → due g m role ≡ Over → is_over g m ≡ true
over_is g m role is = step (is_over g m) (has_answered g m role) is
  where
    step : (over answered : Bool) → (if over then Over else (if answered then Hold (round g m) else Owe (round g m) (owed_in (stage g m) (last_move_texts g m.turns)))) ≡ Over → over ≡ true
    step true answered is = refl
    step false true is = absurd cc
    step false false is = absurd cc

after_call-answer : {S M : Type 0} (g : Rules S M) (m : MatchValue M) (id : List ℕ) (role n : ℕ) (answer : Answer) → after_call g m (answer_call id role n answer) ≡ after_answer g m role n answer
after_call-answer g m id role n (Text text) = refl
after_call-answer g m id role n Silent = refl
after_call-answer g m id role n Broken = refl

module _ {S M : Type 0} (g : Rules S M) (own : OwedIsAnswered g) (others : OthersAreUntouched g) (over : AllAreAnswered g) (brief : BriefValue) (role : ℕ) (lt : role < g.roles) (messages : List Owed) (m : MatchValue M) (lawful : IsLawfulMatch g m) where
  own_step : (e : Entry Call Reply) (es : List (Entry Call Reply)) → (e.call ≡ Next brief.id role → e.reply ≡ Due (due g m role)) → IsAt g brief role messages m (e ∷ es) → IsAt g brief role messages (after_call g m e.call) es
  own_step e es said (asks [] of all) =
      let calls = of.calls in
      let replies = of.replies in
      let call : e.call ≡ Next brief.id role = cc in
      let is : e.reply ≡ Due Over = cc in
      let rest : calls_of es ≡ [] = cc in
      let none = no_calls es rest in
      let what : Due (due g m role) ≡ Due Over = sym (said call) ∙ is in
      let now : due g m role ≡ Over = cc in
      subst (λ (x : MatchValue M). IsAt g brief role messages x es) (sym (ap (after_call g m) call)) (found none (over_is g m role now)
      (all ∙ ap (λ x. answered_messages g m role ++ filter_map owed_of (x ∷ replies_of es)) is ∙ ap (λ xs. answered_messages g m role ++ owed_on xs) none ∙ append-nil (answered_messages g m role)))
  own_step e es said (asks (rests n ∷ steps) of all) =
      let calls = of.calls in
      let replies = of.replies in
      let call : e.call ≡ Next brief.id role = cc in
      let is : e.reply ≡ Due (Hold n) = cc in
      subst (λ (x : MatchValue M). IsAt g brief role messages x es) (sym (ap (after_call g m) call))
      (asks steps (record { go_on = All-tail (λ s. goes_on s ≡ true) (rests n) steps of.go_on; calls = cc; replies = cc }) (all ∙ ap (λ x. answered_messages g m role ++ filter_map owed_of (x ∷ replies_of es)) is))
  own_step e [] said (asks (hands_over n owed answer reply ∷ steps) of all) = let calls = of.calls in absurd cc
  own_step e (f ∷ fs) said (asks (hands_over n owed answer reply ∷ steps) of all) =
      let calls = of.calls in
      let replies = of.replies in
      let call : e.call ≡ Next brief.id role = cc in
      let is : e.reply ≡ Due (Owe n owed) = cc in
      let next : f.call ≡ answer_call brief.id role n answer = cc in
      let taken : f.reply ≡ reply = cc in
      let none : owed_of f.reply ≡ None = ap owed_of taken ∙ owes_none reply (All-head (λ s. goes_on s ≡ true) (hands_over n owed answer reply) steps of.go_on) in
      let what : Due (due g m role) ≡ Due (Owe n owed) = sym (said call) ∙ is in
      let now : due g m role ≡ Owe n owed = cc in
      subst (λ (x : MatchValue M). IsAt g brief role messages x (f ∷ fs)) (sym (ap (after_call g m) call))
      (answers f fs n owed answer steps refl next none (record { go_on = All-tail (λ s. goes_on s ≡ true) (hands_over n owed answer reply) steps of.go_on; calls = cc; replies = cc }) now
      (all ∙ ap (λ x. answered_messages g m role ++ filter_map owed_of (x ∷ f.reply ∷ replies_of fs)) is
      ∙ ap (λ o. answered_messages g m role ++ owed ∷ cons_option o (owed_on fs)) none ∙ sym (append_assoc (answered_messages g m role) (owed ∷ []) (owed_on fs))))
  own_step e es said (asks (finds_the_end ∷ steps) of all) = let goes = All-head (λ s. goes_on s ≡ true) finds_the_end steps of.go_on in absurd cc
  own_step e es said (asks (finds_no_due reply ∷ steps) of all) = let goes = All-head (λ s. goes_on s ≡ true) (finds_no_due reply) steps of.go_on in absurd cc
  own_step e es said (answers f fs n owed answer steps is call none of now all) =
      let first : e ≡ f = cc in
      let rest : fs ≡ es = cc in
      let after_is : after_call g m e.call ≡ after_answer g m role n answer = ap (λ (x : Entry Call Reply). after_call g m x.call) first ∙ ap (after_call g m) call ∙ after_call-answer g m brief.id role n answer in
      let more : answered_messages g m role ++ owed ∷ [] ≡ answered_messages g (after_answer g m role n answer) role = sym (own m role n owed answer lawful lt now) in
      subst (λ (x : MatchValue M). IsAt g brief role messages x es) (sym after_is)
      (subst (IsAt g brief role messages (after_answer g m role n answer)) rest (asks steps of (all ∙ ap (λ l. l ++ owed_on fs) more)))
  own_step e es said (found none is all) = absurd cc

  other_answer : (other n : ℕ) (answer : Answer) (entries : List (Entry Call Reply)) → role ≢ other → IsAt g brief role messages m entries → IsAt g brief role messages (after_answer g m other n answer) entries
  other_answer other n answer entries apart (asks steps of all) =
      let same = others m role other n answer lawful lt apart in asks steps of (all ∙ ap (λ l. l ++ owed_on entries) (sym same.answered))
  other_answer other n answer entries apart (answers e es k owed given steps is call none of now all) =
      let same = others m role other n answer lawful lt apart in
      answers e es k owed given steps is call none of (same.owed k owed now) (all ∙ ap (λ l. (l ++ owed ∷ []) ++ owed_on es) (sym same.answered))
  other_answer other n answer entries apart (found none is all) =
      subst (λ (x : MatchValue M). IsAt g brief role messages x entries) (sym ((over m is).stays other n answer)) (found none is all)

  other_step : (id : List ℕ) (other : ℕ) (call : Call) (entries : List (Entry Call Reply)) → IsRoleCall id other call → role ≢ other → IsAt g brief role messages m entries → IsAt g brief role messages (after_call g m call) entries
  other_step id other (Open i n start play strikes players) entries is apart at = absurd is
  other_step id other (Next i r) entries is apart at = at
  other_step id other (Submit i r n text) entries is apart at = other_answer r n (Text text) entries (λ same. apart (same ∙ is.1)) at
  other_step id other (Miss i r n broken) entries is apart at = other_answer r n (missed broken) entries (λ same. apart (same ∙ is.1)) at
  other_step id other (Query i) entries is apart at = absurd is
  other_step id other (Abort i) entries is apart at = absurd is

  -- at the end, no more entries are to come
  all_messages : IsAt g brief role messages m [] → messages ≡ role_messages g m role
  all_messages (asks steps of all) = absurd (some_call brief role steps of)
  all_messages (answers e es n owed answer steps is call none of now all) = absurd cc
  all_messages (found none is all) = all ∙ (over m is).answered role lt

-- ---- Over a history

after_call-lawful : {S M : Type 0} (g : Rules S M) → AnswersKeepLawful g → (m : MatchValue M) (call : Call) → IsLawfulMatch g m → IsLawfulMatch g (after_call g m call)
after_call-lawful g keep m (Open i n start play strikes players) lawful = lawful
after_call-lawful g keep m (Next i r) lawful = lawful
after_call-lawful g keep m (Submit i r n text) lawful = keep m r n (Text text) lawful
after_call-lawful g keep m (Miss i r n broken) lawful = keep m r n (missed broken) lawful
after_call-lawful g keep m (Query i) lawful = lawful
after_call-lawful g keep m (Abort i) lawful = lawful

other_roles : (role other line : ℕ) → (line == line_of role) ≡ false → line ≡ line_of other → role ≢ other
other_roles role other line not_here is same = grind (arith, nat_tests, not_here, is, same)

is_below : (role roles : ℕ) → role < roles → nat_lt role roles ≡ true
is_below role roles lt = grind (arith, nat_tests, lt)

module _ {G S M : Type 0} (rules : G → Rules S M) (game : G) (setup : Setup) (keep : AnswersKeepLawful (rules game)) (own : OwedIsAnswered (rules game)) (others : OthersAreUntouched (rules game)) (over : AllAreAnswered (rules game))
    (brief : BriefValue) (is_id : brief.id ≡ setup.id) (role : ℕ) (lt : role < (rules game).roles) (messages : List Owed) where
  said_due : (m : MatchValue M) → m.setup ≡ setup → reply rules (with_one rules game setup m) (Next brief.id role) ≡ Due (due (rules game) m role)
  said_due m same =
      ap (λ b. unwrap_or (option_map (λ x. next_reply role (rules x.game) x.value) (option_and_then (game_match (with_one rules game setup m)) (if b then Some (record { game = 0; value = m }) else None))) (Refused NoMatch))
      ((bytes_eq-Decides brief.id m.setup.id).1 (is_id ∙ sym (ap (λ (x : Setup). x.id) same)))
      ∙ ap (λ b. if b then Due (due (rules game) m role) else Refused NoRole) (is_below role (rules game).roles lt)

  run_messages : (history : List (Entry Call Reply)) (m held : MatchValue M) → m.setup ≡ setup → IsLawfulMatch (rules game) m → All (λ e. e.line < (rules game).roles + 1) history → AreRoleLines setup.id (rules game).roles history
      → part 0 history ≡ [] → IsLegalHistory (reply rules) (after rules) (with_one rules game setup m) history → run (after rules) (with_one rules game setup m) history ≡ with_one rules game setup held
      → IsAt (rules game) brief role messages m (part (line_of role) history) → messages ≡ role_messages (rules game) held role
  run_messages [] m held same lawful within each none legal leaves at =
      let one : m ∷ [] ≡ held ∷ [] = ap (λ (d : ManagerValue G M). map (λ x. x.value) d.matches) leaves in
      let is : m ≡ held = cc in
      subst (λ (x : MatchValue M). messages ≡ role_messages (rules game) x role) is (all_messages (rules game) own others over brief role lt messages m lawful at)
  run_messages (e ∷ es) m held same lawful within each none legal leaves at =
      step (e.line == 0) refl none
      (λ x is still. run_messages es x held is still (All-tail (λ (x : Entry Call Reply). x.line < (rules game).roles + 1) e es within) (later-role_lines setup.id (rules game).roles e es each))
    where
      step : (b : Bool) → (e.line == 0) ≡ b → cond b (e ∷ part 0 es) (part 0 es) ≡ []
          → ((x : MatchValue M) → x.setup ≡ setup → IsLawfulMatch (rules game) x → part 0 es ≡ [] → IsLegalHistory (reply rules) (after rules) (with_one rules game setup x) es
          → run (after rules) (with_one rules game setup x) es ≡ with_one rules game setup held → IsAt (rules game) brief role messages x (part (line_of role) es) → messages ≡ role_messages (rules game) held role)
          → messages ≡ role_messages (rules game) held role
      step true is rest later = absurd cc
      step false is rest later =
          let called = role_entry setup.id (rules game).roles e es (All-head (λ (x : Entry Call Reply). x.line < (rules game).roles + 1) e es within) is each in
          let now = role_call-one rules game setup setup.id called.0 e.call m called.1 (sym (ap (λ (x : Setup). x.id) same)) in
          later (after_call (rules game) m e.call) (after_call-setup (rules game) m e.call ∙ same) (after_call-lawful (rules game) keep m e.call lawful) rest
          (subst (λ d. IsLegalHistory (reply rules) (after rules) d es) now legal.1) (sym (ap (λ d. run (after rules) d es) now) ∙ leaves)
          (here (e.line == line_of role) refl at)
        where
          here : (b : Bool) → (e.line == line_of role) ≡ b → IsAt (rules game) brief role messages m (cond b (e ∷ part (line_of role) es) (part (line_of role) es))
              → IsAt (rules game) brief role messages (after_call (rules game) m e.call) (part (line_of role) es)
          here true own_line at = own_step (rules game) own others over brief role lt messages m lawful e (part (line_of role) es) (λ call. legal.0 ∙ ap (reply rules (with_one rules game setup m)) call ∙ said_due m same) at
          here false not_own at =
              let called = role_entry setup.id (rules game).roles e es (All-head (λ (x : Entry Call Reply). x.line < (rules game).roles + 1) e es within) is each in
              other_step (rules game) own others over brief role lt messages m lawful setup.id called.0 e.call (part (line_of role) es) called.1 (other_roles role called.0 e.line not_own called.2) at

-- ---- The law

pub roles_are_owed : {G S M P : Type 0} (rules : G → Rules S M) (handed : P → Option (List Handed)) → ((game : G) → NewMatchIsLawful (rules game)) → ((game : G) → AnswersKeepLawful (rules game)) → ((game : G) → NoneIsAnswered (rules game))
    → ((game : G) → OwedIsAnswered (rules game)) → ((game : G) → OthersAreUntouched (rules game)) → ((game : G) → AllAreAnswered (rules game)) → RolesAreOwed rules handed
roles_are_owed {G} {S} {M} {P} rules handed new keep none own others over game setup printed tries players left d history made_by_line ends it role count is =
    let at = it.attended.each role (Ok count) is in
    let end = at.is_end in
    let entries = part (line_of role) history in
    let lt : role < (rules game).roles = omega (arith, slice_get_within ends role (Ok count) is, it.one_end_each) in
    let of : AreStepsOf it.told role end.ended.steps entries = record {
      go_on = end.ended.go_on;
      calls = ap (λ o. unwrap_or o []) end.ended.told.calls;
      replies = sym (end.are_all refl) ∙ ap (λ o. unwrap_or o []) end.ended.told.replies;
    } in
    let whole = it.one_match.is_all in
    let match' = subst (λ (x : ManagerValue G M). All (IsMatchOf rules x.games) x.matches) whole it.headline.lawful.matches in
    let held = All-head (IsMatchOf rules (game ∷ [])) (record { game = 0; value = it.one_match.held }) [] match' in
    let same_game : game ≡ held.game = let w : Some game ≡ Some held.game = held.is_game in cc in
    let players_are : length setup.players ≡ (rules game).roles =
    ap (λ (x : Setup). length x.players) (sym it.one_match.setup_is) ∙ subst (λ (x : G). length it.one_match.held.setup.players ≡ (rules x).roles) (sym same_game) held.lawful.one_player in
    let opened = after_opening rules game setup (rules game).roles history it.lines it.role_lines it.first_line (subst (λ x. IsLegalHistory (reply rules) (after rules) x history) it.begins it.headline.replay.legal) in
    let later = opened.1 in
    let part_is = later.same_part (line_of role) (omega arith) (admitted it.told role end.ended.steps entries of) in
    let fresh = new game setup players_are in
    let start : IsAt (rules game) it.told role (owed_on entries) (new_match (rules game) setup) (part (line_of role) opened.0) =
    asks end.ended.steps (subst (AreStepsOf it.told role end.ended.steps) (sym part_is) of) (sym (ap (λ xs. owed_on xs) part_is) ∙ sym (ap (λ l. l ++ owed_on (part (line_of role) opened.0)) (none game setup role lt)))
    in
    run_messages rules game setup (keep game) (own game) (others game) (over game) it.told it.is_told.id role lt (owed_on entries) opened.0 (new_match (rules game) setup) it.one_match.held refl fresh later.within later.each later.no_first later.legal
    (sym (it.headline.replay.leaves ∙ ap (λ x. run (after rules) x history) it.begins ∙ later.leaves) ∙ whole) start
