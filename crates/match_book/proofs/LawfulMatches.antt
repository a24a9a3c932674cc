-- A lawful match stays lawful.
use Rattle.std.proofs.Common.{◌≡◌, ℕ, ◌+◌, ◌<◌, ◌≤◌, Bool, true, false, Option, Some, None, List, [], ◌∷◌, ◌++◌, length, set, refl, arith, ap, sym, ◌∙◌, subst, inl, inr, Contains, length-append, length-set}
use Rattle.std.proofs.lemmas.List.{length-map, length-replicate}
use Rattle.std.specs.Prelude.{IsSome, is_some, not, if◌then◌else◌}
use Rattle.game_core.specs.Play.{Rules, IsLawful}
use Rattle.match_book.specs.Roles.{every_role, at_role, is_there, blank, present}
use Rattle.match_book.specs.Judgement.{judgement, substitute, IsJudged, IsPart}
use Rattle.match_book.specs.Retirement.{is_retired}
use Rattle.match_book.specs.MatchValue.{MatchValue, state_after}
use Rattle.match_book.specs.Phase.{stage, still_answers, answered_in, is_live, max_turns, is_playing}
use Rattle.match_book.specs.Lawful.{IsLawfulTurn, AreLawful, IsLawfulMatch}
use Rattle.match_book.specs.Laws.{HasPart, IsInPlay}
use Rattle.match_book.specs.Steps.{new_match, with_abort, with_start_mark, with_end_mark, turn_of, part, parts}
use Rattle.desk_calls.specs.declared.setup.Setup.{Setup}
use Rattle.desk_calls.specs.declared.answer.Answer.{Answer}
use Rattle.match_book.specs.declared.answer.Mark.{Mark}
use Rattle.match_book.specs.declared.judgement.Judgement.{Judgement}
use Rattle.match_book.specs.declared.judgement.Substitution.TheVariants.{Retired}
use Rattle.match_book.specs.declared.phase.Stage.{Stage}
use Rattle.match_book.specs.declared.phase.Stage.TheVariants.{Starting, Playing, Stopping, Aborting}
use Rattle.match_book.specs.declared.phase.Cause.TheVariants.{Asked}
use Rattle.match_book.proofs.RoleTests.{every_role-at, at_role-set, at_role-other, at_role-blank, same_or_other, length-of_each_role, get-of_each_role}
use Rattle.match_book.proofs.Judgements.{judgement-some, substitute-is, substitute-some, first-contains}
use Rattle.match_book.proofs.TurnParts.{length-present, present-at, present-get, some_of}
use Rattle.match_book.proofs.Stages.{stage-by, stage-asked, live-not_asked, starting-missing, playing_means, begun_rounds_are_open}
use Rattle.match_book.proofs.LawfulTurns.{AreLawful-push}

pub none_blank : {A : Type 0} (n r : ℕ) (x : A) → at_role (blank n) r ≡ Some x → ⊥
none_blank {A} n r x e = let w : Some x ≡ None = sym e ∙ at_role-blank A n r in absurd cc

ended-not_playing : (at : Stage) → is_live at ≡ false → is_playing at ≡ false
ended-not_playing Starting e = absurd cc
ended-not_playing Playing e = absurd cc
ended-not_playing Stopping e = refl
ended-not_playing (Aborting c) e = refl

-- a role's part of a turn, given whether the role is retired
record IsGiven {S M : Type 0} (g : Rules S M) (retired : Bool) (moves : List M) (i : Judgement M) : Type 0 where
  pub among : Contains moves i.taken
  pub fits : IsPart g retired moves i.taken i.error

-- a match without open answers and end marks
pub lawful-round_begun : {S M : Type 0} (g : Rules S M) → IsLawful g → (m : MatchValue M) → length m.setup.players ≡ g.roles → length m.start_marks ≡ g.roles → m.abort_asked ≡ false
    → m.open_answers ≡ blank g.roles → m.end_marks ≡ blank g.roles → AreLawful g m.setup.strikes m.turns → length m.turns ≤ max_turns → (every_role g.roles (is_there m.start_marks) ≡ false → m.turns ≡ []) → IsLawfulMatch g m
lawful-round_begun {S} {M} g laws m players starts asked answers ends turns few after =
    record {
      one_player = players;
      one_start_mark = starts;
      one_open_answer = ap length answers ∙ length-replicate g.roles None;
      one_end_mark = ap length ends ∙ length-replicate g.roles None;
      turns = turns;
      few_turns = few;
      turns_after_start = after;
      judged = λ r j lt e. absurd (none_blank g.roles r j (rw answers at e));
      answers_in_play = λ _. answers;
      round_is_open = λ e. begun_rounds_are_open g m e answers;
      ends_at_end = λ _. ends;
      asked_when_live = λ e. absurd cc;
    }

pub lawful-new_match : {S M : Type 0} (g : Rules S M) → IsLawful g → (setup : Setup) → length setup.players ≡ g.roles → IsLawfulMatch g (new_match {M = M} g setup)
lawful-new_match g laws setup players =
    lawful-round_begun g laws (new_match g setup) players (length-replicate g.roles None) refl refl refl (λ k d lt. absurd (omega arith)) (omega arith) (λ _. refl)

module _ {S M : Type 0} (g : Rules S M) (laws : IsLawful g) (m : MatchValue M) (lawful : IsLawfulMatch g m) where
  pub lawful-with_start_mark : (r : ℕ) (mark : Mark) → stage g m ≡ Starting → IsLawfulMatch g (with_start_mark m r mark)
  lawful-with_start_mark r mark starting =
      let no_turns : m.turns ≡ [] = lawful.turns_after_start (starting-missing g m starting) in
      lawful-round_begun g laws (with_start_mark m r mark) lawful.one_player (length-set m.start_marks r (Some mark) ∙ lawful.one_start_mark) (live-not_asked g m (rw starting refl))
      (lawful.answers_in_play (rw starting refl)) (lawful.ends_at_end (rw starting refl)) lawful.turns lawful.few_turns (λ _. no_turns)

  pub lawful-with_end_mark : (r : ℕ) (mark : Mark) → is_live (stage g m) ≡ false → IsLawfulMatch g (with_end_mark m r mark)
  lawful-with_end_mark r mark ended =
      let same : stage g (with_end_mark m r mark) ≡ stage g m = stage-by g m (with_end_mark m r mark) refl refl refl refl in
      let playing : is_playing (stage g m) ≡ false = ended-not_playing (stage g m) ended in
      record {
        one_player = lawful.one_player;
        one_start_mark = lawful.one_start_mark;
        one_open_answer = lawful.one_open_answer;
        one_end_mark = length-set m.end_marks r (Some mark) ∙ lawful.one_end_mark;
        turns = lawful.turns;
        few_turns = lawful.few_turns;
        turns_after_start = lawful.turns_after_start;
        judged = lawful.judged;
        answers_in_play = λ _. lawful.answers_in_play playing;
        round_is_open = λ e. absurd (let w : false ≡ true = sym playing ∙ rw same at e in cc);
        ends_at_end = λ e. absurd (let w : false ≡ true = sym ended ∙ rw same at e in cc);
        asked_when_live = λ e. rw (stage-by g (record m { abort_asked = false }) (record (with_end_mark m r mark) { abort_asked = false }) refl refl refl refl) (lawful.asked_when_live e);
      }

  pub lawful-with_abort : is_live (stage g m) ≡ true → IsLawfulMatch g (with_abort g m)
  lawful-with_abort live =
      let aborting : stage g (with_abort g m) ≡ Aborting Asked = stage-asked g (with_abort g m) refl in
      let before : stage g (record (with_abort g m) { abort_asked = false }) ≡ stage g m = stage-by g m (record (with_abort g m) { abort_asked = false }) refl (sym (live-not_asked g m live)) refl refl in
      record {
        one_player = lawful.one_player;
        one_start_mark = lawful.one_start_mark;
        one_open_answer = length-replicate g.roles None;
        one_end_mark = lawful.one_end_mark;
        turns = lawful.turns;
        few_turns = lawful.few_turns;
        turns_after_start = lawful.turns_after_start;
        judged = λ r j lt e. absurd (none_blank g.roles r j e);
        answers_in_play = λ _. refl;
        round_is_open = λ e. absurd (let w : false ≡ true = rw aborting at e in cc);
        ends_at_end = λ e. absurd (let w : false ≡ true = rw aborting at e in cc);
        asked_when_live = λ _. rw before live;
      }

  module _ (playing : stage g m ≡ Playing) (r : ℕ) (lt : r < g.roles) where
    plays : IsInPlay g m
    plays = (playing_means g m).0 playing

    pub answer-judged : (a : Answer) → IsSome (judgement g (state_after g m.turns) r a)
    answer-judged a = judgement-some g (state_after g m.turns) r a (plays.moves r lt)

    module _ (j : Judgement M) (answers : still_answers m r ≡ true) (judged : IsJudged g (g.legal (state_after g m.turns) r) j.taken j.error) where
      -- the open answers and this one
      more : List (Option (Judgement M))
      more = set m.open_answers r (Some j)

      more-wide : length more ≡ g.roles
      unfolding more
      more-wide = length-set m.open_answers r (Some j) ∙ lawful.one_open_answer

      more-judged : (k : ℕ) (i : Judgement M) → k < g.roles → at_role more k ≡ Some i → (still_answers m k ≡ true) × IsJudged g (g.legal (state_after g m.turns) k) i.taken i.error
      unfolding more
      more-judged k i lt' e =
          elim (same_or_other k r) [
            | inl same ↦
                let e' : Some j ≡ Some i = sym (at_role-set m.open_answers r (Some j) (omega (arith, lawful.one_open_answer))) ∙ (ap (at_role more) (sym same) ∙ e) in
                let w : j ≡ i = cc in
                subst (λ (x : ℕ). (still_answers m x ≡ true) × IsJudged g (g.legal (state_after g m.turns) x) i.taken i.error) (sym same)
                (answers, subst (λ (x : Judgement M). IsJudged g (g.legal (state_after g m.turns) r) x.taken x.error) w judged)
            | inr other ↦ lawful.judged k i lt' (sym (at_role-other m.open_answers r k (Some j) other) ∙ e)
          ]

      pub lawful-open_answer : every_role g.roles (answered_in Playing (record m { open_answers = set m.open_answers r (Some j) })) ≡ false → IsLawfulMatch g (record m { open_answers = set m.open_answers r (Some j) })
      unfolding more
      lawful-open_answer missing =
          let same : stage g (record m { open_answers = set m.open_answers r (Some j) }) ≡ stage g m = stage-by g m (record m { open_answers = set m.open_answers r (Some j) }) refl refl refl refl in
          let now : stage g (record m { open_answers = set m.open_answers r (Some j) }) ≡ Playing = same ∙ playing in
          record {
            one_player = lawful.one_player;
            one_start_mark = lawful.one_start_mark;
            one_open_answer = more-wide;
            one_end_mark = lawful.one_end_mark;
            turns = lawful.turns;
            few_turns = lawful.few_turns;
            turns_after_start = lawful.turns_after_start;
            judged = more-judged;
            answers_in_play = λ e. absurd (let w : true ≡ false = rw now at e in cc);
            round_is_open = λ _. subst (λ (x : Stage). every_role g.roles (answered_in x (record m { open_answers = set m.open_answers r (Some j) })) ≡ false) (sym now) missing;
            ends_at_end = λ _. lawful.ends_at_end (rw playing refl);
            asked_when_live = λ e. absurd (let w : true ≡ false = sym e ∙ live-not_asked g m (rw playing refl) in cc);
          }

      module _ (all : every_role g.roles (answered_in Playing (record m { open_answers = set m.open_answers r (Some j) })) ≡ true) where
        given : (k : ℕ) → k < g.roles → (i : Judgement M) × (part g (record m { open_answers = set m.open_answers r (Some j) }) k ≡ Some i) × IsGiven g (is_retired m k) (g.legal (state_after g m.turns) k) i
        unfolding more
        given k lt' = step (is_retired m k) refl (every_role-at g.roles k (answered_in Playing (record m { open_answers = set m.open_answers r (Some j) })) all lt')
          where
            step : (b : Bool) → is_retired m k ≡ b → (if not b then is_there (set m.open_answers r (Some j)) k else true) ≡ true
                → (i : Judgement M) × ((if not b then at_role (set m.open_answers r (Some j)) k else substitute (g.legal (state_after g m.turns) k) Retired) ≡ Some i)
                × IsGiven g b (g.legal (state_after g m.turns) k) i
            step true is there =
                let found = some_of (substitute (g.legal (state_after g m.turns) k) Retired) (substitute-some (g.legal (state_after g m.turns) k) Retired (plays.moves k lt')) in
                let first = substitute-is (g.legal (state_after g m.turns) k) Retired found.0 found.1 in
                (found.0, found.1, record { among = first-contains (g.legal (state_after g m.turns) k) found.0.taken first.0; fits = first })
            step false is there =
                let found = some_of (at_role (set m.open_answers r (Some j)) k) there in
                let judged' = more-judged k found.0 lt' found.1 in
                (found.0, found.1, record { among = judged'.1.0; fits = judged'.1 })

        all_parts : List (Option (Judgement M))
        all_parts = parts g (record m { open_answers = set m.open_answers r (Some j) })

        parts-wide : length all_parts ≡ g.roles
        unfolding all_parts
        parts-wide = length-of_each_role g.roles (part g (record m { open_answers = set m.open_answers r (Some j) }))

        parts-at : (k : ℕ) → k < g.roles → at_role all_parts k ≡ part g (record m { open_answers = set m.open_answers r (Some j) }) k
        unfolding all_parts
        parts-at k lt' = get-of_each_role g.roles (part g (record m { open_answers = set m.open_answers r (Some j) })) k None lt'

        parts-all : (k : ℕ) → k < length all_parts → is_there all_parts k ≡ true
        parts-all k lt' =
            let below : k < g.roles = omega (arith, parts-wide) in
            ap is_some (parts-at k below ∙ (given k below).1)

        pub has_part : (q : ℕ) → q < g.roles → HasPart g (record m { open_answers = set m.open_answers r (Some j) }) q
        unfolding all_parts
        has_part q lt' =
            let found = given q lt' in
            let at : at_role all_parts q ≡ Some found.0 = parts-at q lt' ∙ found.1 in
            let within : q < length all_parts = omega (arith, parts-wide) in
            record { judged = found.0; is_part = found.1; move = present-get (λ k. k.taken) all_parts q found.0 parts-all within at; error = present-get (λ k. k.error) all_parts q found.0 parts-all within at }

        pub lawful-turn : IsLawfulTurn g m.setup.strikes m.turns (turn_of (parts g (record m { open_answers = set m.open_answers r (Some j) })))
        unfolding all_parts
        lawful-turn = record {
          goes_on = plays.goes_on;
          some_answer = plays.some_answer;
          joint = record {
            width = length-map (present all_parts) (λ i. i.taken) ∙ (length-present all_parts parts-all ∙ parts-wide);
            legal = λ q d lt'.
                let found = given q lt' in
                subst (λ (x : M). Contains (g.legal (state_after g m.turns) q) x) (sym (present-at (λ i. i.taken) all_parts q d found.0 parts-all (omega (arith, parts-wide)) (parts-at q lt' ∙ found.1))) found.2.among;
          };
          one_error = length-map (present all_parts) (λ i. i.error) ∙ (length-present all_parts parts-all ∙ parts-wide);
          judged = λ q d lt'.
              let found = given q lt' in
              let moves = present-at (λ i. i.taken) all_parts q d found.0 parts-all (omega (arith, parts-wide)) (parts-at q lt' ∙ found.1) in
              let errors = present-at (λ i. i.error) all_parts q [] found.0 parts-all (omega (arith, parts-wide)) (parts-at q lt' ∙ found.1) in
              rw (moves, errors) found.2.fits;
        }

        pub lawful-recorded : IsLawfulMatch g (record m { turns = m.turns ++ turn_of (parts g (record m { open_answers = set m.open_answers r (Some j) })) ∷ []; open_answers = blank g.roles })
        lawful-recorded =
            let t = turn_of (parts g (record m { open_answers = set m.open_answers r (Some j) })) in
            let few = plays.few in
            let wide : length (m.turns ++ t ∷ []) ≡ length m.turns + 1 = length-append m.turns (t ∷ []) in
            let started : every_role g.roles (is_there m.start_marks) ≡ true = plays.started in
            lawful-round_begun g laws (record m { turns = m.turns ++ t ∷ []; open_answers = blank g.roles }) lawful.one_player lawful.one_start_mark (live-not_asked g m (rw playing refl)) refl
            (lawful.ends_at_end (rw playing refl)) (AreLawful-push g m.setup.strikes m.turns t lawful.turns lawful-turn) (omega arith) (λ e. absurd (let w : true ≡ false = sym started ∙ e in cc))
