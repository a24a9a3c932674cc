-- The answers that a legal history took.
use Rattle.std.proofs.Common.{◌≡◌, ◌≢◌, ℕ, zero, suc, ◌<◌, Bool, true, false, Option, Some, None, Result, Ok, Err, List, [], ◌∷◌, ◌++◌, length, slice_index_or, refl, arith, ap, sym, ◌∙◌, subst, append_assoc, append-nil, ◌⊎◌, inl, inr}
use Rattle.std.proofs.lemmas.List.Elements.{All-push, All-map}
use Rattle.std.proofs.lemmas.Slice.Eq.{bytes_eq-Decides}
use Rattle.std.proofs.lemmas.Bool.Decides.{nat_tests}
use Rattle.std.specs.Prelude.{IfOk, sum, All, AllPairs, map, find, is_none, slice_get, option_map, option_and_then, option_to_list, unwrap_or, bytes_eq, if◌then◌else◌, ◌&&◌, ◌==◌}
use Rattle.game_core.specs.Play.{Rules}
use Rattle.match_book.specs.MatchValue.{MatchValue, GameMatch}
use Rattle.match_book.specs.Lawful.{IsLawfulMatch}
use Rattle.match_book.specs.Phase.{round}
use Rattle.match_book.specs.Steps.{new_match, refusal, with_answer, after_answer, after_abort}
use Rattle.desk_calls.specs.declared.setup.Setup.{Setup}
use Rattle.desk_calls.specs.declared.answer.Answer.{Answer}
use Rattle.desk_calls.specs.declared.answer.Answer.TheVariants.{Text}
use Rattle.match_book.specs.declared.answer.AnswerRefusal.{AnswerRefusal}
use Rattle.match_book.specs.declared.answer.AnswerRefusal.TheVariants.{NoRole, Over, Stale, Twice}
use Rattle.call_history.specs.History.{run, IsLegalHistory, IsReplay}
use Rattle.call_history.specs.declared.journal.Entry.{Entry}
use Rattle.match_desk.specs.ManagerValue.{DeskMatch, ManagerValue, opening, has_id, match_of, game_of, game_match, match_with_id, IsLawfulManager}
use Rattle.match_desk.specs.Open.{open_refusal, with_new_match, after_open}
use Rattle.match_desk.specs.Steps.{setup_of, missed, answer_refused, refused_or, answer_reply, reply_of, reply, changed_match, with_change, after}
use Rattle.match_desk.specs.Accepted.{answer_if, is_taken, taken_answer, taken_answers, AreAccounted}
use Rattle.match_desk.specs.Headline.{ArePlayedLegally, HasHeadline}
use Rattle.match_desk.specs.Internal.MatchLaws.{MatchLaws}
use Rattle.desk_calls.specs.declared.call.Call.{Call}
use Rattle.desk_calls.specs.declared.call.Call.TheVariants.{Open, Next, Submit, Miss, Query, Abort}
use Rattle.desk_calls.specs.declared.call.Reply.{Reply}
use Rattle.desk_calls.specs.declared.call.Reply.TheVariants.{Taken, Refused}
use Rattle.desk_calls.specs.declared.call.Refusal.{Refusal}
use Rattle.desk_calls.specs.declared.call.Refusal.TheVariants.{NoMatch}
use Rattle.match_desk.proofs.Managers.{IsKeptBy, keeps-answer, keeps-abort, lawful-opening}
use Rattle.match_desk.proofs.OpenTests.{IsOpenable, openable}
use Rattle.match_desk.proofs.LawfulSteps.{lawful-after}
use Rattle.match_desk.proofs.FollowedMatches.{IsFollowed, followed-same, followed-new_match, followed-after_abort, followed-after_answer}

taken_answers-snoc : (id : List ℕ) (role n : ℕ) (history : List (Entry Call Reply)) (e : Entry Call Reply) → taken_answers id role n (history ++ e ∷ []) ≡ taken_answers id role n history ++ taken_answer id role n e
taken_answers-snoc id role n [] e = append-nil (taken_answer id role n e)
taken_answers-snoc id role n (x ∷ xs) e = ap (λ l. taken_answer id role n x ++ l) (taken_answers-snoc id role n xs e) ∙ sym (append_assoc (taken_answer id role n x) (taken_answers id role n xs) (taken_answer id role n e))

quiet-same : (id : List ℕ) (role n : ℕ) (history : List (Entry Call Reply)) (e : Entry Call Reply) → taken_answer id role n e ≡ [] → taken_answers id role n (history ++ e ∷ []) ≡ taken_answers id role n history
quiet-same id role n history e quiet = taken_answers-snoc id role n history e ∙ (ap (λ l. taken_answers id role n history ++ l) quiet ∙ append-nil (taken_answers id role n history))

nothing : {A : Type 0} (b : Bool) → ◌≡◌ {A = List A} (if b then option_to_list None else []) []
nothing true = refl
nothing false = refl

find-at : {M : Type 0} (id : List ℕ) (ms : List (DeskMatch M)) → AllPairs (λ (m n : DeskMatch M). m.value.setup.id ≢ n.value.setup.id) ms
    → (k : ℕ) (d : DeskMatch M) → k < length ms → has_id id (slice_index_or ms k d) ≡ true → find (has_id id) ms ≡ Some (slice_index_or ms k d)
find-at id [] differ k d lt mine = absurd (omega arith)
find-at id (m ∷ ms) differ zero d lt mine = rw mine refl
find-at {M} id (m ∷ ms) differ (suc k) d lt mine = step (bytes_eq id m.value.setup.id) refl (find-at id ms (λ i j x less below. differ (suc i) (suc j) x (omega arith) (omega arith)) k d (omega arith) mine)
  where
    step : (b : Bool) → bytes_eq id m.value.setup.id ≡ b → find (has_id id) ms ≡ Some (slice_index_or ms k d) → (if b then Some m else find (has_id id) ms) ≡ Some (slice_index_or ms k d)
    step true is later =
        absurd (differ 0 (suc k) d (omega arith) lt (sym ((bytes_eq-Decides id m.value.setup.id).0 is) ∙ (bytes_eq-Decides id (slice_index_or ms k d).value.setup.id).0 mine))
    step false is later = later

find-map-none : {M : Type 0} (id : List ℕ) (h : DeskMatch M → DeskMatch M) → ((m : DeskMatch M) → (h m).value.setup.id ≡ m.value.setup.id) → (ms : List (DeskMatch M)) → find (has_id id) (map h ms) ≡ None → find (has_id id) ms ≡ None
find-map-none id h keeps [] none = refl
find-map-none {M} id h keeps (m ∷ ms) none = step (bytes_eq id (h m).value.setup.id) (bytes_eq id m.value.setup.id) (ap (bytes_eq id) (keeps m)) none (find-map-none id h keeps ms)
  where
    step : (a b : Bool) → a ≡ b → (if a then Some (h m) else find (has_id id) (map h ms)) ≡ None → (find (has_id id) (map h ms) ≡ None → find (has_id id) ms ≡ None) → (if b then Some m else find (has_id id) ms) ≡ None
    step true b same none later = absurd cc
    step false true same none later = absurd cc
    step false false same none later = later none

find-append-none : {M : Type 0} (id : List ℕ) (xs ys : List (DeskMatch M)) → find (has_id id) (xs ++ ys) ≡ None → find (has_id id) xs ≡ None
find-append-none id [] ys none = refl
find-append-none {M} id (m ∷ ms) ys none = step (bytes_eq id m.value.setup.id) none (find-append-none id ms ys)
  where
    step : (b : Bool) → (if b then Some m else find (has_id id) (ms ++ ys)) ≡ None → (find (has_id id) (ms ++ ys) ≡ None → find (has_id id) ms ≡ None) → (if b then Some m else find (has_id id) ms) ≡ None
    step true none later = absurd cc
    step false none later = later none

record IsFollowedMatch {G S M : Type 0} (rules : G → Rules S M) (games : List G) (history : List (Entry Call Reply)) (m : DeskMatch M) : Type 0 where
  game : G
  is_game : slice_get games m.game ≡ Some game
  follows : IsFollowed (rules game) m.value (λ role n. taken_answers m.value.setup.id role n history)

record IsFollowedManager {G S M : Type 0} (rules : G → Rules S M) (d : ManagerValue G M) (history : List (Entry Call Reply)) : Type 0 where
  lawful : IsLawfulManager rules d
  matches : All (IsFollowedMatch rules d.games history) d.matches
  unused : (id : List ℕ) → match_of d id ≡ None → (role n : ℕ) → taken_answers id role n history ≡ []

module _ {G S M : Type 0} (rules : G → Rules S M) (laws : (g : G) → MatchLaws (rules g)) (d : ManagerValue G M) (history : List (Entry Call Reply)) (followed : IsFollowedManager rules d history) (e : Entry Call Reply) where
  -- an entry that gives no answer and changes nothing
  followed-unchanged : ((id : List ℕ) (role n : ℕ) → taken_answer id role n e ≡ []) → IsFollowedManager rules d (history ++ e ∷ [])
  followed-unchanged quiet = record {
    lawful = followed.lawful;
    matches = λ k x lt.
        let old = followed.matches k x lt in
        let id = (slice_index_or d.matches k x).value.setup.id in
        record {
          game = old.game;
          is_game = old.is_game;
          follows = followed-same (rules old.game) (slice_index_or d.matches k x).value (λ role n. taken_answers id role n history) (λ role n. taken_answers id role n (history ++ e ∷ []))
              (λ role n. quiet-same id role n history e (quiet id role n)) old.follows;
        };
    unused = λ id none role n. quiet-same id role n history e (quiet id role n) ∙ followed.unused id none role n;
  }

  -- an entry that changes the match with this id
  module _ (id : List ℕ) (f : Rules S M → MatchValue M → MatchValue M) (keeps : (g : G) → IsKeptBy (rules g) f) (lawful : IsLawfulManager rules (with_change rules d id f))
      (mine : (m : DeskMatch M) (g : G) → match_of d id ≡ Some m → slice_get d.games m.game ≡ Some g → bytes_eq id m.value.setup.id ≡ true → IsLawfulMatch (rules g) m.value
      → IsFollowed (rules g) m.value (λ role n. taken_answers m.value.setup.id role n history) → IsFollowed (rules g) (f (rules g) m.value) (λ role n. taken_answers m.value.setup.id role n (history ++ e ∷ [])))
      (others : (i : List ℕ) → bytes_eq id i ≡ false → (role n : ℕ) → taken_answer i role n e ≡ []) (none : match_of d id ≡ None → (role n : ℕ) → taken_answer id role n e ≡ []) where
    change : DeskMatch M → DeskMatch M
    change m = if has_id id m then changed_match rules d f m else m

    value-setup : (o : Option G) (m : MatchValue M) → (unwrap_or (option_map (λ g. f (rules g) m) o) m).setup ≡ m.setup
    value-setup None m = refl
    value-setup (Some g) m = (keeps g).setup m

    change-id : (m : DeskMatch M) → (change m).value.setup.id ≡ m.value.setup.id
    unfolding change
    change-id m = step (has_id id m)
      where
        step : (b : Bool) → (if b then changed_match rules d f m else m).value.setup.id ≡ m.value.setup.id
        step true = ap (λ (s : Setup). s.id) (value-setup (game_of d m) m.value)
        step false = refl

    followed-changed : (m : DeskMatch M) (g : G) → slice_get d.games m.game ≡ Some g → IsFollowed (rules g) (f (rules g) m.value) (λ role n. taken_answers m.value.setup.id role n (history ++ e ∷ [])) → IsFollowedMatch rules d.games (history ++ e ∷ []) (changed_match rules d f m)
    followed-changed m g is_game follows =
        let now : unwrap_or (option_map (λ x. f (rules x) m.value) (game_of d m)) m.value ≡ f (rules g) m.value = ap (λ (o : Option G). unwrap_or (option_map (λ x. f (rules x) m.value) o) m.value) is_game in
        let same : (f (rules g) m.value).setup.id ≡ m.value.setup.id = ap (λ (s : Setup). s.id) ((keeps g).setup m.value) in
        record {
          game = g;
          is_game = is_game;
          follows = subst (λ (x : MatchValue M). IsFollowed (rules g) x (λ role n. taken_answers x.setup.id role n (history ++ e ∷ []))) (sym now)
              (followed-same (rules g) (f (rules g) m.value) (λ role n. taken_answers m.value.setup.id role n (history ++ e ∷ [])) (λ role n. taken_answers (f (rules g) m.value).setup.id role n (history ++ e ∷ [])) (λ role n. ap (λ (i : List ℕ). taken_answers i role n (history ++ e ∷ [])) same) follows);
        }

    followed-other : (m : DeskMatch M) → IsFollowedMatch rules d.games history m → bytes_eq id m.value.setup.id ≡ false → IsFollowedMatch rules d.games (history ++ e ∷ []) m
    followed-other m old is = record {
      game = old.game;
      is_game = old.is_game;
      follows = followed-same (rules old.game) m.value (λ role n. taken_answers m.value.setup.id role n history) (λ role n. taken_answers m.value.setup.id role n (history ++ e ∷ []))
          (λ role n. quiet-same m.value.setup.id role n history e (others m.value.setup.id is role n)) old.follows;
    }

    followed-each : (k : ℕ) (x : DeskMatch M) → k < length d.matches → IsFollowedMatch rules d.games (history ++ e ∷ []) (change (slice_index_or d.matches k x))
    unfolding change
    followed-each k x lt = step (has_id id (slice_index_or d.matches k x)) refl
      where
        step : (b : Bool) → has_id id (slice_index_or d.matches k x) ≡ b → IsFollowedMatch rules d.games (history ++ e ∷ []) (if b then changed_match rules d f (slice_index_or d.matches k x) else slice_index_or d.matches k x)
        step true is =
            let m = slice_index_or d.matches k x in
            let old = followed.matches k x lt in
            let match' = followed.lawful.matches k x lt in
            let same : match'.game ≡ old.game = let w : Some match'.game ≡ Some old.game = sym match'.is_game ∙ old.is_game in cc in
            followed-changed m old.game old.is_game
            (mine m old.game (find-at id d.matches followed.lawful.ids_differ k x lt is) old.is_game is (subst (λ (g : G). IsLawfulMatch (rules g) m.value) same match'.lawful) old.follows)
        step false is = followed-other (slice_index_or d.matches k x) (followed.matches k x lt) is

    followed-change : IsFollowedManager rules (with_change rules d id f) (history ++ e ∷ [])
    unfolding change
    followed-change = record {
      lawful = lawful;
      matches = All-map (IsFollowedMatch rules d.games (history ++ e ∷ [])) change d.matches followed-each;
      unused = λ i free role n.
          let before : match_of d i ≡ None = find-map-none i change change-id d.matches free in
          quiet-same i role n history e (unused-quiet i before role n (bytes_eq id i) refl) ∙ followed.unused i before role n;
    }
      where
        unused-quiet : (i : List ℕ) → match_of d i ≡ None → (role n : ℕ) (b : Bool) → bytes_eq id i ≡ b → taken_answer i role n e ≡ []
        unused-quiet i before role n true is = let same = (bytes_eq-Decides id i).0 is in subst (λ (x : List ℕ). taken_answer x role n e ≡ []) same (none (ap (match_of d) same ∙ before) role n)
        unused-quiet i before role n false is = others i is role n

eq-self : (n : ℕ) → (n == n) ≡ true
eq-self n = grind (arith, nat_tests)

eq-other : (m n : ℕ) → m ≢ n → (n == m) ≡ false
eq-other m n ne = grind (arith, nat_tests)

and-false : (a b : Bool) → b ≡ false → (a && b) ≡ false
and-false true b e = e
and-false false b e = refl

false-and : (a b : Bool) → a ≡ false → (a && b) ≡ false
false-and true b e = absurd cc
false-and false b e = refl

no_answer : (b : Bool) (wanted : Bool) (a : Answer) → wanted ≡ false → (if b then option_to_list (answer_if wanted a) else []) ≡ []
no_answer true true a e = absurd cc
no_answer true false a e = refl
no_answer false wanted a e = refl

not_taken : (r : Reply) (wanted : Bool) (a : Answer) → is_taken r ≡ false → (if is_taken r then option_to_list (answer_if wanted a) else []) ≡ []
not_taken r wanted a e = step (is_taken r) e
  where
    step : (b : Bool) → b ≡ false → (if b then option_to_list (answer_if wanted a) else []) ≡ []
    step true is = absurd cc
    step false is = refl

one_answer : (r : Reply) (wanted : Bool) (a : Answer) → is_taken r ≡ true → wanted ≡ true → (if is_taken r then option_to_list (answer_if wanted a) else []) ≡ a ∷ []
one_answer r wanted a e w = step (is_taken r) wanted e w
  where
    step : (b c : Bool) → b ≡ true → c ≡ true → (if b then option_to_list (answer_if c a) else []) ≡ a ∷ []
    step true true is want = refl
    step true false is want = absurd cc
    step false c is want = absurd cc

and-true : (a b c : Bool) → a ≡ true → b ≡ true → c ≡ true → (a && b && c) ≡ true
and-true true true true p q r = refl
and-true true true false p q r = absurd cc
and-true true false c p q r = absurd cc
and-true false b c p q r = absurd cc

-- an entry that gives an answer of a role for a round
module _ {G S M : Type 0} (rules : G → Rules S M) (laws : (g : G) → MatchLaws (rules g)) (d : ManagerValue G M) (history : List (Entry Call Reply)) (followed : IsFollowedManager rules d history)
    (id : List ℕ) (role round' : ℕ) (answer : Answer) (e : Entry Call Reply) (is : e.reply ≡ reply_of rules d id (answer_reply role round'))
    (gives : (i : List ℕ) (r n : ℕ) → taken_answer i r n e ≡ (if is_taken e.reply then option_to_list (answer_if (bytes_eq id i && role == r && round' == n) answer) else []))
    (lawful : IsLawfulManager rules (with_change rules d id (λ g m. after_answer g m role round' answer))) where
  reply-found : (m : DeskMatch M) (g : G) → match_of d id ≡ Some m → slice_get d.games m.game ≡ Some g → e.reply ≡ answer_reply role round' (rules g) m.value
  reply-found m g found is_game =
      let here : match_with_id d id ≡ Some (record { game = g; value = m.value }) =
      ap (option_and_then (game_match d)) found ∙ ap (option_map (λ (x : G). record { game = x; value = m.value })) is_game
      in
      is ∙ ap (λ (o : Option (GameMatch G M)). unwrap_or (option_map (λ x. answer_reply role round' (rules x.game) x.value) o) (Refused NoMatch)) here

  reply-none : match_of d id ≡ None → is_taken e.reply ≡ false
  reply-none none =
      let here : match_with_id d id ≡ None = ap (option_and_then (game_match d)) none in
      ap is_taken (is ∙ ap (λ (o : Option (GameMatch G M)). unwrap_or (option_map (λ x. answer_reply role round' (rules x.game) x.value) o) (Refused NoMatch)) here)

  refused-not_taken : (reason : AnswerRefusal) → is_taken (refused_or (answer_refused (Some reason)) Taken) ≡ false
  refused-not_taken NoRole = refl
  refused-not_taken Over = refl
  refused-not_taken (Stale n) = refl
  refused-not_taken Twice = refl

  mine : (m : DeskMatch M) (g : G) → match_of d id ≡ Some m → slice_get d.games m.game ≡ Some g → bytes_eq id m.value.setup.id ≡ true → IsLawfulMatch (rules g) m.value
      → IsFollowed (rules g) m.value (λ r n. taken_answers m.value.setup.id r n history)
      → IsFollowed (rules g) (after_answer (rules g) m.value role round' answer) (λ r n. taken_answers m.value.setup.id r n (history ++ e ∷ []))
  mine m g found is_game has lawful' follows = step (refusal (rules g) m.value role round') refl
    where
      mid : List ℕ
      mid = m.value.setup.id

      replied : e.reply ≡ refused_or (answer_refused (refusal (rules g) m.value role round')) Taken
      replied = reply-found m g found is_game

      step : (o : Option AnswerRefusal) → refusal (rules g) m.value role round' ≡ o → IsFollowed (rules g) (if is_none o then with_answer (rules g) m.value role answer else m.value) (λ r n. taken_answers mid r n (history ++ e ∷ []))
      step (Some reason) refused =
          let quiet : is_taken e.reply ≡ false = ap is_taken (replied ∙ ap (λ o. refused_or (answer_refused o) Taken) refused) ∙ refused-not_taken reason in
          followed-same (rules g) m.value (λ r n. taken_answers mid r n history) (λ r n. taken_answers mid r n (history ++ e ∷ []))
          (λ r n. quiet-same mid r n history e (gives mid r n ∙ not_taken e.reply (bytes_eq id mid && role == r && round' == n) answer quiet)) follows
      step None free =
          let present : round' ≡ round (rules g) m.value = ((laws g).for_round m.value role round' free).1 in
          let accepted : is_taken e.reply ≡ true = ap is_taken (replied ∙ ap (λ o. refused_or (answer_refused o) Taken) free) in
          let free' : refusal (rules g) m.value role (round (rules g) m.value) ≡ None = subst (λ (k : ℕ). refusal (rules g) m.value role k ≡ None) present free in
          let here : taken_answers mid role (round (rules g) m.value) (history ++ e ∷ []) ≡ taken_answers mid role (round (rules g) m.value) history ++ answer ∷ [] =
          taken_answers-snoc mid role (round (rules g) m.value) history e
          ∙ ap (λ l. taken_answers mid role (round (rules g) m.value) history ++ l)
          (gives mid role (round (rules g) m.value)
          ∙ one_answer e.reply (bytes_eq id mid && role == role && round' == round (rules g) m.value) answer accepted
          (and-true (bytes_eq id mid) (role == role) (round' == round (rules g) m.value) has (eq-self role) (subst (λ (k : ℕ). (round' == k) ≡ true) present (eq-self round'))))
          in
          let after' : after_answer (rules g) m.value role (round (rules g) m.value) answer ≡ with_answer (rules g) m.value role answer = ap (λ o. if is_none o then with_answer (rules g) m.value role answer else m.value) free' in
          subst (λ (x : MatchValue M). IsFollowed (rules g) x (λ r n. taken_answers mid r n (history ++ e ∷ []))) after'
          (followed-after_answer (rules g) (laws g) m.value lawful' (λ r n. taken_answers mid r n history) follows role answer free' (λ r n. taken_answers mid r n (history ++ e ∷ [])) here
          (λ r n other. quiet-same mid r n history e (gives mid r n ∙ no_answer (is_taken e.reply) (bytes_eq id mid && role == r && round' == n) answer (unwanted r n present other))))
        where
          unwanted : (r n : ℕ) → round' ≡ round (rules g) m.value → (r ≢ role) ⊎ (n ≢ round (rules g) m.value) → (bytes_eq id mid && role == r && round' == n) ≡ false
          unwanted r n present (inl ne) = false-and (bytes_eq id mid && role == r) (round' == n) (and-false (bytes_eq id mid) (role == r) (eq-other r role ne))
          unwanted r n present (inr ne) = and-false (bytes_eq id mid && role == r) (round' == n) (eq-other n round' (λ w. ne (w ∙ present)))

  followed-answer : IsFollowedManager rules (with_change rules d id (λ g m. after_answer g m role round' answer)) (history ++ e ∷ [])
  followed-answer =
      followed-change rules laws d history followed e id (λ g m. after_answer g m role round' answer) (keeps-answer rules (λ g. (laws g).answers) role round' answer) lawful mine
      (λ i other r n. gives i r n ∙ no_answer (is_taken e.reply) (bytes_eq id i && role == r && round' == n) answer (false-and (bytes_eq id i && role == r) (round' == n) (false-and (bytes_eq id i) (role == r) other)))
      (λ none r n. gives id r n ∙ not_taken e.reply (bytes_eq id id && role == r && round' == n) answer (reply-none none))

module _ {G S M : Type 0} (rules : G → Rules S M) (laws : (g : G) → MatchLaws (rules g)) where
  followed-open : (d : ManagerValue G M) (history : List (Entry Call Reply)) → IsFollowedManager rules d history → (e : Entry Call Reply) → ((id : List ℕ) (role n : ℕ) → taken_answer id role n e ≡ [])
      → (game : ℕ) (setup : Setup) → IsLawfulManager rules (after_open rules d game setup) → IsFollowedManager rules (after_open rules d game setup) (history ++ e ∷ [])
  followed-open d history followed e quiet game setup lawful = step (open_refusal rules d game setup) refl lawful
    where
      same : IsFollowedManager rules d (history ++ e ∷ [])
      same = followed-unchanged rules laws d history followed e quiet

      opened : match_of d setup.id ≡ None → (o : Option G) → slice_get d.games game ≡ o → IsLawfulManager rules (with_new_match rules d game setup o) → IsFollowedManager rules (with_new_match rules d game setup o) (history ++ e ∷ [])
      opened free None at lawful' = same
      opened free (Some g) at lawful' =
          let new : IsFollowedMatch rules d.games (history ++ e ∷ []) (record { game = game; value = new_match (rules g) setup }) =
          record { game = g; is_game = at; follows = followed-new_match (rules g) setup (λ role n. taken_answers setup.id role n (history ++ e ∷ [])) (same.unused setup.id free) }
          in
          record {
            lawful = lawful';
            matches = All-push (IsFollowedMatch rules d.games (history ++ e ∷ [])) d.matches (record { game = game; value = new_match (rules g) setup }) same.matches new;
            unused = λ id none. same.unused id (find-append-none id d.matches ((record { game = game; value = new_match (rules g) setup }) ∷ []) none);
          }

      step : (o : Option Refusal) → open_refusal rules d game setup ≡ o → IsLawfulManager rules (if is_none o then with_new_match rules d game setup (slice_get d.games game) else d)
          → IsFollowedManager rules (if is_none o then with_new_match rules d game setup (slice_get d.games game) else d) (history ++ e ∷ [])
      step None is lawful' = let open' : IsOpenable rules d game setup = openable rules d game setup is in opened open'.free (slice_get d.games game) refl lawful'
      step (Some reason) is lawful' = same

  followed-step : (d : ManagerValue G M) (history : List (Entry Call Reply)) → IsFollowedManager rules d history → (line : ℕ) (call : Call) (r : Reply) → r ≡ reply rules d call
      → IsFollowedManager rules (after rules d call) (history ++ (record { line = line; call = call; reply = r }) ∷ [])
  followed-step d history followed line (Open id game start play strikes players) r is =
      followed-open d history followed (record { line = line; call = Open id game start play strikes players; reply = r }) (λ i role n. nothing (is_taken r)) game (setup_of id start play strikes players)
      (lawful-after rules laws d followed.lawful (Open id game start play strikes players))
  followed-step d history followed line (Next id role) r is = followed-unchanged rules laws d history followed (record { line = line; call = Next id role; reply = r }) (λ i role' n. nothing (is_taken r))
  followed-step d history followed line (Submit id role n text) r is =
      followed-answer rules laws d history followed id role n (Text text) (record { line = line; call = Submit id role n text; reply = r }) is (λ i role' k. refl) (lawful-after rules laws d followed.lawful (Submit id role n text))
  followed-step d history followed line (Miss id role n broken) r is =
      followed-answer rules laws d history followed id role n (missed broken) (record { line = line; call = Miss id role n broken; reply = r }) is (λ i role' k. refl) (lawful-after rules laws d followed.lawful (Miss id role n broken))
  followed-step d history followed line (Query id) r is = followed-unchanged rules laws d history followed (record { line = line; call = Query id; reply = r }) (λ i role' n. nothing (is_taken r))
  followed-step d history followed line (Abort id) r is =
      followed-change rules laws d history followed (record { line = line; call = Abort id; reply = r }) id after_abort (keeps-abort rules (λ g. (laws g).aborts)) (lawful-after rules laws d followed.lawful (Abort id))
      (λ m g found is_game has lawful follows.
      followed-same (rules g) (after_abort (rules g) m.value) (λ role n. taken_answers m.value.setup.id role n history) (λ role n. taken_answers m.value.setup.id role n (history ++ (record { line = line; call = Abort id; reply = r }) ∷ []))
      (λ role n. quiet-same m.value.setup.id role n history (record { line = line; call = Abort id; reply = r }) (nothing (is_taken r)))
      (followed-after_abort (rules g) (laws g) m.value lawful (λ role n. taken_answers m.value.setup.id role n history) follows))
      (λ i other role n. nothing (is_taken r)) (λ none role n. nothing (is_taken r))

  followed-run : (before history : List (Entry Call Reply)) (d : ManagerValue G M) → IsFollowedManager rules d before → IsLegalHistory (reply rules) (after rules) d history → IsFollowedManager rules (run (after rules) d history) (before ++ history)
  followed-run before [] d followed legal = subst (λ (l : List (Entry Call Reply)). IsFollowedManager rules d l) (sym (append-nil before)) followed
  followed-run before (e ∷ es) d followed legal =
      subst (λ (l : List (Entry Call Reply)). IsFollowedManager rules (run (after rules) (after rules d e.call) es) l) (append_assoc before (e ∷ []) es)
      (followed-run (before ++ e ∷ []) es (after rules d e.call) (followed-step d before followed e.line e.call e.reply legal.0) legal.1)

  followed-start : (games : List G) → IsFollowedManager rules (record { games = games; matches = [] }) []
  followed-start games = record { lawful = lawful-opening rules games; matches = λ k x lt. absurd (omega arith); unused = λ id none role n. refl }

  -- a legal history from an opening
  module _ (games : List G) (history : List (Entry Call Reply)) (legal : IsLegalHistory (reply rules) (after rules) (record { games = games; matches = [] }) history) where
    all : IsFollowedManager rules (run (after rules) (record { games = games; matches = [] }) history) history
    all = followed-run [] history (record { games = games; matches = [] }) (followed-start games) legal

    pub run-accounted : AreAccounted rules (run (after rules) (record { games = games; matches = [] }) history) history
    run-accounted k x lt =
        let one = all.matches k x lt in
        record { game = one.game; is_game = one.is_game; answered = one.follows.recorded }

    pub run-lawful : IsLawfulManager rules (run (after rules) (record { games = games; matches = [] }) history)
    run-lawful = all.lawful

-- the same from a manager without matches
module _ {G S M : Type 0} (rules : G → Rules S M) (laws : (g : G) → MatchLaws (rules g)) (d : ManagerValue G M) (empty : d.matches ≡ []) (history : List (Entry Call Reply)) (legal : IsLegalHistory (reply rules) (after rules) d history) where
  opens : d ≡ record { games = d.games; matches = [] }
  opens = let put : List (DeskMatch M) → ManagerValue G M = λ ms. record { games = d.games; matches = ms } in ap put empty

  pub opening-accounted : AreAccounted rules (run (after rules) d history) history
  opening-accounted =
      subst (λ (x : ManagerValue G M). AreAccounted rules (run (after rules) x history) history) (sym opens)
      (run-accounted rules laws d.games history (subst (λ (x : ManagerValue G M). IsLegalHistory (reply rules) (after rules) x history) opens legal))

  pub opening-lawful : IsLawfulManager rules (run (after rules) d history)
  opening-lawful =
      subst (λ (x : ManagerValue G M). IsLawfulManager rules (run (after rules) x history)) (sym opens)
      (run-lawful rules laws d.games history (subst (λ (x : ManagerValue G M). IsLegalHistory (reply rules) (after rules) x history) opens legal))

-- a manager and the history that replays to it
module _ {G S M : Type 0} (rules : G → Rules S M) (laws : (g : G) → MatchLaws (rules g)) (d : ManagerValue G M) (history : List (Entry Call Reply)) (replay : IsReplay (reply rules) (after rules) opening d history) where
  replay-lawful : IsLawfulManager rules d
  replay-lawful = subst (λ (x : ManagerValue G M). IsLawfulManager rules x) (sym replay.leaves) (run-lawful rules laws d.games history replay.legal)

  replay-accounted : AreAccounted rules d history
  replay-accounted = subst (λ (x : ManagerValue G M). AreAccounted rules x history) (sym replay.leaves) (run-accounted rules laws d.games history replay.legal)

  replay-legal : ArePlayedLegally rules d
  replay-legal k x lt =
      let m = replay-lawful.matches k x lt in
      record { game = m.game; is_game = m.is_game; legal = (laws m.game).legal (slice_index_or d.matches k x).value m.lawful }

  pub replay-headline : (lines : ℕ) (made : List ℕ) → length made ≡ lines → sum made ≡ length history → HasHeadline rules lines d history made
  replay-headline lines made one_each counted = record {
    replay = replay;
    one_each = one_each;
    counted = counted;
    lawful = replay-lawful;
    legal = replay-legal;
    accounted = replay-accounted;
  }

-- the main theorem for a closed desk
pub closed-headline : {G S M X U : Type 0} (rules : G → Rules S M) (laws : (g : G) → MatchLaws (rules g)) (lines : ℕ) (object : X → ManagerValue G M) (history : X → List (Entry Call Reply)) (made : X → List ℕ) (r : Result X U)
    → IfOk r (λ c. IsReplay (reply rules) (after rules) opening (object c) (history c)) → IfOk r (λ c. length (made c) ≡ lines) → IfOk r (λ c. sum (made c) ≡ length (history c))
    → IfOk r (λ c. HasHeadline rules lines (object c) (history c) (made c))
closed-headline rules laws lines object history made (Ok c) replay one_each counted = replay-headline rules laws (object c) (history c) replay lines (made c) one_each counted
closed-headline rules laws lines object history made (Err u) replay one_each counted = tt
