-- Each step of a match keeps its invariant.
use Rattle.std.proofs.Common.{◌≡◌, ◌≢◌, ℕ, ◌+◌, ◌*◌, ◌<◌, ◌≤◌, true, false, eqb, Bool, Option, Some, None, List, [], ◌∷◌, ◌++◌, length, set, refl, arith, ap, sym, ◌∙◌, subst, inl, inr, take, length-append}
use Rattle.std.proofs.lemmas.List.{take-append-le, get_or_append_left}
use Rattle.std.proofs.lemmas.List.Sums.{sum_by_push}
use Rattle.std.proofs.lemmas.Option.{slice_get-get_or, get_or_from_slice_get}
use Rattle.std.proofs.Math.Seq.{take-append_seam, get_or-append_seam}
use Rattle.std.proofs.lemmas.Bool.Decides.{nat_tests}
use Rattle.std.specs.Prelude.{All, IsSome, IfSome, is_some, slice_index_or, slice_get, count_by, replicate, not, ◌==◌, if◌then◌else◌}
use Rattle.game_core.specs.Play.{Rules, IsLawful, IsJoint, max_roles}
use Rattle.match_book.specs.Roles.{every_role, of_each_role, at_role, is_there, blank}
use Rattle.match_book.specs.Judgement.{judged_answer, judgement, substitute, IsJudged}
use Rattle.match_book.specs.Retirement.{is_retired, retired_by}
use Rattle.match_book.specs.MatchValue.{MatchValue, GameMatch, state_after, substitutions, is_error}
use Rattle.match_book.specs.Phase.{stage, settled, still_answers, answered_in, goal_in, is_live, max_turns}
use Rattle.match_book.specs.LegalMoves.{AreLegalMoves}
use Rattle.match_book.specs.Lawful.{IsLawfulTurn, IsLawfulMatch}
use Rattle.match_book.specs.Internal.OpenAnswers.{AreMoves, kept_part}
use Rattle.match_book.specs.Steps.{new_match, with_abort, with_start_mark, with_end_mark, with_open_answer, turn_of, part, parts, IsLastToStart}
use Rattle.match_book.specs.RoleStrikes.{unstruck, is_retired_in, count_roles, AreStrikes, answered_at_first}
use Rattle.match_book.specs.Internal.Kept.{ArePast, IsKept}
use Rattle.match_book.specs.declared.retirement.RoleStrikes.{RoleStrikes}
use Rattle.match_book.specs.declared.judgement.Substitution.TheVariants.{Retired}
use Rattle.desk_calls.specs.declared.setup.Setup.{Setup}
use Rattle.desk_calls.specs.declared.answer.Answer.{Answer}
use Rattle.match_book.specs.declared.answer.Mark.{Mark}
use Rattle.match_book.specs.declared.judgement.Judgement.{Judgement}
use Rattle.match_book.specs.declared.turn.Turn.{Turn}
use Rattle.match_book.specs.declared.phase.Cause.TheVariants.{Asked}
use Rattle.match_book.specs.declared.phase.Stage.{Stage}
use Rattle.match_book.specs.declared.phase.Stage.TheVariants.{Starting, Playing, Stopping, Aborting}
use Rattle.match_book.proofs.RoleTests.{below_or_at, every_role-but, every_role-at, every_role-count, at_role-set, at_role-other, count-blank, count-set, count_roles-same, count_roles-more, count_roles-none, count_roles-le, is_there-blank, of_each_role-set}
use Rattle.match_book.proofs.StruckTurns.{retired_by-none, strikes-none, strikes-retired, strikes-count, all_retired-count}
use Rattle.match_book.proofs.Stages.{stage-by, stage-asked, stage-starting, stage-settled, starting-missing, live-not_asked, settled-not_starting, goal_in-live, answered_in-none, answered_in-retired, not_answered-parts, playing_means}
use Rattle.match_book.proofs.Judgements.{Contains-move}
use Rattle.match_book.proofs.TurnParts.{at_role-read}
use Rattle.match_book.proofs.LawfulTurns.{state_after-push, state_after-is_state, substitutions-few, turn_errors-few}
use Rattle.match_book.proofs.LawfulMatches.{lawful-new_match, lawful-with_start_mark, lawful-with_end_mark, lawful-with_abort, lawful-open_answer, lawful-turn, lawful-recorded, answer-judged}

not_all : (c n : ℕ) → c < n → eqb c n ≡ false
not_all c n lt = grind (arith, nat_tests)

all_there : (c n : ℕ) → c ≤ n → n ≤ c → eqb c n ≡ true
all_there c n le ge = grind (arith, nat_tests)

pub game_match : {G M : Type 0} (x : G) (b c : MatchValue M) → b ≡ c → ◌≡◌ {A = GameMatch G M} (record { game = x; value = b }) (record { game = x; value = c })
game_match {G} {M} x b c e = let f : MatchValue M → GameMatch G M = λ y. record { game = x; value = y } in ap f e

pub kept-new_match : {S M : Type 0} (g : Rules S M) → IsLawful g → (setup : Setup) → length setup.players ≡ g.roles → IsKept g (new_match {M = M} g setup) [] g.initial Starting 0 0 (replicate g.roles unstruck) [] []
kept-new_match {S} {M} g laws setup players =
    let missing : every_role g.roles (is_there {A = Mark} (blank g.roles)) ≡ false = every_role-but g.roles 0 (is_there (blank g.roles)) laws.some_role (is_there-blank Mark g.roles 0) in
    record {
      lawful = lawful-new_match g laws setup players;
      past_are = record { one_each = refl; before = λ k lt. absurd (omega arith) };
      state_is = refl;
      is_state = laws.initial_is_state;
      stage_is = sym (stage-starting g (new_match g setup) refl missing);
      answered_is = sym (count-blank Mark g.roles);
      substituted_is = refl;
      strikes_are = strikes-none g.roles setup.strikes;
      legal_are = λ e. absurd cc;
      goals_are = λ r lt. refl;
    }

answered-begun : {M : Type 0} (at : Stage) (m : MatchValue M) (n retired : ℕ) → at ≢ Starting → m.open_answers ≡ blank n → m.end_marks ≡ blank n → retired ≡ count_roles n (is_retired m) → answered_at_first at retired ≡ count_roles n (answered_in at m)
answered-begun Starting m n retired ne answers ends count = absurd (ne refl)
answered-begun Playing m n retired ne answers ends count = count ∙ sym (count_roles-same n (is_retired m) (answered_in Playing m) (λ k lt. answered_in-retired m n k answers))
answered-begun Stopping m n retired ne answers ends count = sym (count_roles-none n (answered_in Stopping m) (λ k lt. answered_in-none Stopping m n k ne (λ e. absurd cc) ends))
answered-begun (Aborting c) m n retired ne answers ends count = sym (count_roles-none n (answered_in (Aborting c) m) (λ k lt. answered_in-none (Aborting c) m n k ne (λ e. absurd cc) ends))

past-push : {S M : Type 0} (g : Rules S M) (turns : List (Turn M)) (t : Turn M) (past : List S) (s : S) → ArePast g turns past → s ≡ state_after g turns → ArePast g (turns ++ t ∷ []) (past ++ s ∷ [])
past-push {S} {M} g turns t past s are is =
    record {
      one_each = length-append past (s ∷ []) ∙ (ap (λ n. n + 1) are.one_each ∙ sym (length-append turns (t ∷ [])));
      before = λ k lt. elim (below_or_at k (length turns) (omega (arith, length-append turns (t ∷ [])))) [
        | inl last ↦ at_last k last
        | inr below ↦ earlier k below
      ];
    }
  where
    at_last : (k : ℕ) → k ≡ length turns → slice_get (past ++ s ∷ []) k ≡ Some (state_after g (take k (turns ++ t ∷ [])))
    at_last k last =
        slice_get-get_or (past ++ s ∷ []) k s (omega (arith, last, are.one_each, length-append past (s ∷ [])))
        ∙ ap Some
        (ap (λ n. slice_index_or (past ++ s ∷ []) n s) (last ∙ sym are.one_each) ∙ get_or-append_seam past s [] s
        ∙ (is ∙ ap (state_after g) (sym (take-append_seam turns (t ∷ [])) ∙ ap (λ n. take n (turns ++ t ∷ [])) (sym last))))

    earlier : (k : ℕ) → k < length turns → slice_get (past ++ s ∷ []) k ≡ Some (state_after g (take k (turns ++ t ∷ [])))
    earlier k below =
        slice_get-get_or (past ++ s ∷ []) k s (omega (arith, below, are.one_each, length-append past (s ∷ [])))
        ∙ ap Some
        (get_or_append_left past (s ∷ []) s k (omega (arith, below, are.one_each))
        ∙ get_or_from_slice_get past k _ s (are.before k below)
        ∙ ap (state_after g) (sym (take-append-le k turns (t ∷ []) (omega (arith, below)))))

kept-settled : {S M : Type 0} (g : Rules S M) (laws : IsLawful g) (m : MatchValue M) (past : List S) (s : S) (at : Stage) (retired substituted : ℕ) (strikes : List RoleStrikes) (legal : List (List M)) (goals : List (Option ℕ)) → IsLawfulMatch g m → ArePast g m.turns past
    → m.abort_asked ≡ false → every_role g.roles (is_there m.start_marks) ≡ true → m.open_answers ≡ blank g.roles → m.end_marks ≡ blank g.roles
    → s ≡ state_after g m.turns → retired ≡ count_roles g.roles (is_retired m) → at ≡ settled g (length m.turns) (retired == g.roles) s → substituted ≡ substitutions m.turns → AreStrikes g.roles m.setup.strikes m.turns strikes → (at ≡ Playing → AreLegalMoves g s legal) → ((r : ℕ) → r < g.roles → at_role goals r ≡ goal_in at g s r)
    → IsKept g m past s at (answered_at_first at retired) substituted strikes legal goals
kept-settled {S} {M} g laws m past s at retired substituted strikes legal goals lawful before asked all answers ends state count settles total kept moves are =
    let now : stage g m ≡ at =
    stage-settled g m asked all
    ∙ (ap (λ b. settled g (length m.turns) b (state_after g m.turns)) (all_retired-count g.roles m.setup.strikes m.turns retired count) ∙ (ap (settled g (length m.turns) (retired == g.roles)) (sym state) ∙ sym settles))
    in
    let not_start : at ≢ Starting = λ e. settled-not_starting g (length m.turns) (retired == g.roles) s (sym settles ∙ e) in
    record {
      lawful = lawful;
      past_are = before;
      state_is = state;
      is_state = subst (λ (x : S). g.IsState x) (sym state) (state_after-is_state g laws m.turns lawful.turns);
      stage_is = sym now;
      answered_is = answered-begun at m g.roles retired not_start answers ends count;
      substituted_is = total;
      strikes_are = kept;
      legal_are = moves;
      goals_are = are;
    }

module _ {S M : Type 0} (g : Rules S M) (laws : IsLawful g) {m : MatchValue M} {past : List S} {s : S} {at : Stage} {answered substituted : ℕ} {strikes : List RoleStrikes} {legal : List (List M)} {goals : List (Option ℕ)} (kept : IsKept g m past s at answered substituted strikes legal goals) where
  pub answered-few : answered ≤ max_roles
  answered-few = let few = count_roles-le g.roles (answered_in at m) in let e = kept.answered_is in let roles = laws.few_roles in omega arith

  pub substituted-few : substituted ≤ max_turns * max_roles
  substituted-few = let few = substitutions-few g laws m.turns kept.lawful.turns in let long = kept.lawful.few_turns in let e = kept.substituted_is in omega arith

  pub kept-with_abort : (lists : List (List M)) → is_live at ≡ true → IsKept g (with_abort g m) past s (Aborting Asked) 0 substituted strikes lists goals
  kept-with_abort lists live =
      let live_now : is_live (stage g m) ≡ true = rw (← kept.stage_is) live in
      record {
        lawful = lawful-with_abort g laws m kept.lawful live_now;
        past_are = kept.past_are;
        state_is = kept.state_is;
        is_state = kept.is_state;
        stage_is = sym (stage-asked g (with_abort g m) refl);
        answered_is = rw (kept.lawful.ends_at_end live_now) (sym (count-blank Mark g.roles));
        substituted_is = kept.substituted_is;
        strikes_are = kept.strikes_are;
        legal_are = λ e. absurd cc;
        goals_are = λ r lt. kept.goals_are r lt ∙ goal_in-live g at s r live;
      }

  module _ (r : ℕ) (lt : r < g.roles) (mark : Mark) where
    ended_count : (x : Stage) → is_live x ≡ false → is_there m.end_marks r ≡ false → count_roles g.roles (answered_in x (with_end_mark m r mark)) ≡ count_roles g.roles (answered_in x m) + 1
    ended_count Starting e free = absurd cc
    ended_count Playing e free = absurd cc
    ended_count Stopping e free = count-set m.end_marks g.roles r mark kept.lawful.one_end_mark lt free
    ended_count (Aborting c) e free = count-set m.end_marks g.roles r mark kept.lawful.one_end_mark lt free

    pub kept-with_end_mark : is_live at ≡ false → is_there m.end_marks r ≡ false → IsKept g (with_end_mark m r mark) past s at (answered + 1) substituted strikes legal goals
    kept-with_end_mark ended free =
        let ended_now : is_live (stage g m) ≡ false = rw (← kept.stage_is) ended in
        let same : stage g (with_end_mark m r mark) ≡ stage g m = stage-by g m (with_end_mark m r mark) refl refl refl refl in
        record {
          lawful = lawful-with_end_mark g laws m kept.lawful r mark ended_now;
          past_are = kept.past_are;
          state_is = kept.state_is;
          is_state = kept.is_state;
          stage_is = kept.stage_is ∙ sym same;
          answered_is = sym (ended_count at ended free ∙ ap (λ n. n + 1) (sym kept.answered_is));
          substituted_is = kept.substituted_is;
          strikes_are = kept.strikes_are;
          legal_are = kept.legal_are;
          goals_are = kept.goals_are;
        }

    module _ (starting : at ≡ Starting) (free : is_there m.start_marks r ≡ false) where
      starting_now : stage g m ≡ Starting
      starting_now = sym kept.stage_is ∙ starting

      asked : m.abort_asked ≡ false
      asked = live-not_asked g m (rw starting_now refl)

      start_count : count_roles g.roles (is_there (with_start_mark m r mark).start_marks) ≡ answered + 1
      start_count =
          count-set m.start_marks g.roles r mark kept.lawful.one_start_mark lt free
          ∙ ap (λ n. n + 1) (sym (kept.answered_is ∙ ap (λ (x : Stage). count_roles g.roles (answered_in x m)) starting))

      pub kept-with_start_mark : answered + 1 < g.roles → IsKept g (with_start_mark m r mark) past s at (answered + 1) substituted strikes legal goals
      kept-with_start_mark not_last =
          let missing : every_role g.roles (is_there (with_start_mark m r mark).start_marks) ≡ false = every_role-count g.roles (is_there (with_start_mark m r mark).start_marks) ∙ rw start_count (not_all (answered + 1) g.roles not_last) in
          record {
            lawful = lawful-with_start_mark g laws m kept.lawful r mark starting_now;
            past_are = kept.past_are;
            state_is = kept.state_is;
            is_state = kept.is_state;
            stage_is = starting ∙ sym (stage-starting g (with_start_mark m r mark) asked missing);
            answered_is = subst (λ (x : Stage). answered + 1 ≡ count_roles g.roles (answered_in x (with_start_mark m r mark))) (sym starting) (sym start_count);
            substituted_is = kept.substituted_is;
            strikes_are = kept.strikes_are;
            legal_are = kept.legal_are;
            goals_are = kept.goals_are;
          }

      all_started : g.roles ≤ answered + 1 → every_role g.roles (is_there (with_start_mark m r mark).start_marks) ≡ true
      all_started last =
          let few = count_roles-le g.roles (is_there (with_start_mark m r mark).start_marks) in
          every_role-count g.roles (is_there (with_start_mark m r mark).start_marks) ∙ rw start_count (all_there (answered + 1) g.roles (rw start_count at few) last)

      pub last-to_start : g.roles ≤ answered + 1 → IsLastToStart g m r
      last-to_start last =
          (starting_now, λ k below other. sym (ap is_some (at_role-other m.start_marks r k (Some mark) other)) ∙ every_role-at g.roles k (is_there (with_start_mark m r mark).start_marks) (all_started last) below)

      pub kept-with_last_start_mark : (to : Stage) (lists : List (List M)) (are : List (Option ℕ)) → g.roles ≤ answered + 1 → to ≡ settled g (length m.turns) (0 == g.roles) s → (to ≡ Playing → AreLegalMoves g s lists) → ((k : ℕ) → k < g.roles → at_role are k ≡ goal_in to g s k)
          → IsKept g (with_start_mark m r mark) past s to 0 substituted strikes lists are
      kept-with_last_start_mark to lists are last settles moves goals_are =
          subst (λ n. IsKept g (with_start_mark m r mark) past s to n substituted strikes lists are) (first to)
          (kept-settled g laws (with_start_mark m r mark) past s to 0 substituted strikes lists are (lawful-with_start_mark g laws m kept.lawful r mark starting_now) kept.past_are asked (all_started last)
          (kept.lawful.answers_in_play (rw starting_now refl)) (kept.lawful.ends_at_end (rw starting_now refl)) kept.state_is none_retired settles kept.substituted_is kept.strikes_are moves goals_are)
        where
          first : (x : Stage) → answered_at_first x 0 ≡ 0
          first Starting = refl
          first Playing = refl
          first Stopping = refl
          first (Aborting c) = refl

          none_retired : 0 ≡ count_roles g.roles (is_retired m)
          none_retired =
              let no_turns : m.turns ≡ [] = kept.lawful.turns_after_start (starting-missing g m starting_now) in
              sym (count_roles-none g.roles (is_retired m) (λ k below. ap (λ l. retired_by m.setup.strikes l k) no_turns ∙ retired_by-none M m.setup.strikes k))

  module _ (playing : at ≡ Playing) where
    playing_now : stage g m ≡ Playing
    playing_now = sym kept.stage_is ∙ playing

    pub open_answers-moves : AreMoves g m.open_answers
    open_answers-moves k d within = step (at_role m.open_answers k) refl
      where
        step : (o : Option (Judgement M)) → at_role m.open_answers k ≡ o → IfSome (slice_index_or m.open_answers k d) (λ j. g.IsMove j.taken)
        step None e = rw (at_role-read m.open_answers k d within, e) tt
        step (Some j) e =
            let lt : k < g.roles = omega (arith, kept.lawful.one_open_answer) in
            let among = (kept.lawful.judged k j lt e).1.0 in
            rw (at_role-read m.open_answers k d within, e) (Contains-move g laws (state_after g m.turns) k j.taken (state_after-is_state g laws m.turns kept.lawful.turns) lt among)

    module _ (r : ℕ) (lt : r < g.roles) where
      pub legal-within : r < length legal
      legal-within = let wide = (kept.legal_are playing).one_list in omega arith

      pub legal-at : (moves : List M) → moves ≡ slice_index_or legal r moves → moves ≡ g.legal (state_after g m.turns) r
      legal-at moves read = read ∙ ((kept.legal_are playing).legal r moves lt ∙ ap (λ x. g.legal x r) kept.state_is)

      pub legal-moves : (moves : List M) → moves ≡ slice_index_or legal r moves → All (λ n. g.IsMove n) moves
      legal-moves moves read =
          subst (λ (l : List M). All (λ n. g.IsMove n) l) (sym (legal-at moves read)) (laws.legal_are_moves (state_after g m.turns) r (state_after-is_state g laws m.turns kept.lawful.turns) lt)

      pub judged-is : (moves : List M) (a : Answer) (o : Option (Judgement M)) → moves ≡ slice_index_or legal r moves → o ≡ judged_answer g moves a → o ≡ judgement g (state_after g m.turns) r a
      unfolding judgement
      judged-is moves a o read is = is ∙ ap (λ l. judged_answer g l a) (legal-at moves read)

      pub judged-some : (moves : List M) (a : Answer) (o : Option (Judgement M)) → moves ≡ slice_index_or legal r moves → o ≡ judged_answer g moves a → IsSome o
      judged-some moves a o read is = subst IsSome (sym (judged-is moves a o read is)) (answer-judged g laws m kept.lawful playing_now r lt a)

      pub strikes-within : r < length strikes
      strikes-within = let wide = kept.strikes_are.one_each in omega arith

      module _ (j : Judgement M) (judged : IsJudged g (g.legal (state_after g m.turns) r) j.taken j.error) where
        module _ (free : answered_in Playing m r ≡ false) where
          pub still-answers : still_answers m r ≡ true
          still-answers = (not_answered-parts m r free).0

          answered_here : answered_in Playing (record m { open_answers = set m.open_answers r (Some j) }) r ≡ true
          answered_here = there (still_answers m r) (ap is_some (at_role-set m.open_answers r (Some j) (omega (arith, kept.lawful.one_open_answer))))
            where
              there : (b : Bool) → is_there (set m.open_answers r (Some j)) r ≡ true → (if b then is_there (set m.open_answers r (Some j)) r else true) ≡ true
              there true e = e
              there false e = refl

          answer_count : count_roles g.roles (answered_in Playing (record m { open_answers = set m.open_answers r (Some j) })) ≡ answered + 1
          answer_count =
              count_roles-more g.roles r (answered_in Playing m) (answered_in Playing (record m { open_answers = set m.open_answers r (Some j) })) lt free answered_here
              (λ k below other. ap (λ (o : Option (Judgement M)). if still_answers m k then is_some o else true) (at_role-other m.open_answers r k (Some j) other))
              ∙ ap (λ n. n + 1) (sym (kept.answered_is ∙ ap (λ (x : Stage). count_roles g.roles (answered_in x m)) playing))

          not_every : answered + 1 < g.roles → every_role g.roles (answered_in Playing (record m { open_answers = set m.open_answers r (Some j) })) ≡ false
          not_every not_last = every_role-count g.roles (answered_in Playing (record m { open_answers = set m.open_answers r (Some j) })) ∙ rw answer_count (not_all (answered + 1) g.roles not_last)

          pub last-answer : g.roles ≤ answered + 1 → every_role g.roles (answered_in Playing (record m { open_answers = set m.open_answers r (Some j) })) ≡ true
          last-answer last =
              every_role-count g.roles (answered_in Playing (record m { open_answers = set m.open_answers r (Some j) }))
              ∙ rw answer_count (all_there (answered + 1) g.roles (rw answer_count at (count_roles-le g.roles (answered_in Playing (record m { open_answers = set m.open_answers r (Some j) })))) last)

          pub kept-open_answer : answered + 1 < g.roles → IsKept g (record m { open_answers = set m.open_answers r (Some j) }) past s at (answered + 1) substituted strikes legal goals
          kept-open_answer not_last =
              let same : stage g (record m { open_answers = set m.open_answers r (Some j) }) ≡ stage g m = stage-by g m (record m { open_answers = set m.open_answers r (Some j) }) refl refl refl refl in
              record {
                lawful = lawful-open_answer g laws m kept.lawful playing_now r lt j still-answers judged (not_every not_last);
                past_are = kept.past_are;
                state_is = kept.state_is;
                is_state = kept.is_state;
                stage_is = kept.stage_is ∙ sym same;
                answered_is = subst (λ (x : Stage). answered + 1 ≡ count_roles g.roles (answered_in x (record m { open_answers = set m.open_answers r (Some j) }))) (sym playing) (sym answer_count);
                substituted_is = kept.substituted_is;
                strikes_are = kept.strikes_are;
                legal_are = kept.legal_are;
                goals_are = kept.goals_are;
              }

          pub value-open_answer : answered + 1 < g.roles → record m { open_answers = set m.open_answers r (Some j) } ≡ with_open_answer g m r (Some j)
          value-open_answer not_last = rw (not_every not_last) refl

        module _ (answers : still_answers m r ≡ true) (all : every_role g.roles (answered_in Playing (record m { open_answers = set m.open_answers r (Some j) })) ≡ true) where
          turn-lawful : IsLawfulTurn g m.setup.strikes m.turns (turn_of (parts g (record m { open_answers = set m.open_answers r (Some j) })))
          turn-lawful = lawful-turn g laws m kept.lawful playing_now r lt j answers judged all

          module _ (t : Turn M) (turn : t ≡ turn_of (parts g (record m { open_answers = set m.open_answers r (Some j) }))) where
            this-lawful : IsLawfulTurn g m.setup.strikes m.turns t
            this-lawful = subst (λ (x : Turn M). IsLawfulTurn g m.setup.strikes m.turns x) (sym turn) turn-lawful

            pub turn-joint : IsJoint g s t.moves
            turn-joint = subst (λ (x : S). IsJoint g x t.moves) (sym kept.state_is) this-lawful.joint

            pub next-is_state : g.IsState (g.next s t.moves)
            next-is_state = laws.next_is_state s t.moves kept.is_state turn-joint

            pub one-error : length t.errors ≡ length strikes
            one-error = this-lawful.one_error ∙ sym kept.strikes_are.one_each

            pub recorded_errors-few : count_by is_error t.errors ≤ max_roles
            recorded_errors-few = turn_errors-few g laws m.turns t this-lawful

            -- the last answer: it makes a turn, and the settling rule follows
            pub kept-recorded : (next : S) (to : Stage) (retired total : ℕ) (after : List RoleStrikes) (lists : List (List M)) (are : List (Option ℕ)) → next ≡ g.next s t.moves
                → AreStrikes g.roles m.setup.strikes (m.turns ++ t ∷ []) after → retired ≡ count_roles (length after) (is_retired_in after)
                → to ≡ settled g (length m.turns + 1) (retired == g.roles) next → total ≡ substituted + count_by is_error t.errors → (to ≡ Playing → AreLegalMoves g next lists) → ((k : ℕ) → k < g.roles → at_role are k ≡ goal_in to g next k)
                → IsKept g (record m { turns = m.turns ++ t ∷ []; open_answers = blank g.roles }) (past ++ s ∷ []) next to (answered_at_first to retired) total after lists are
            kept-recorded next to retired total after lists are is_next strikes_are is_retired is_to is_total moves goals_are =
                let lawful : IsLawfulMatch g (record m { turns = m.turns ++ t ∷ []; open_answers = blank g.roles }) =
                subst (λ (x : Turn M). IsLawfulMatch g (record m { turns = m.turns ++ x ∷ []; open_answers = blank g.roles })) (sym turn) (lawful-recorded g laws m kept.lawful playing_now r lt j answers judged all)
                in
                let wide : length (m.turns ++ t ∷ []) ≡ length m.turns + 1 = length-append m.turns (t ∷ []) in
                kept-settled g laws (record m { turns = m.turns ++ t ∷ []; open_answers = blank g.roles }) (past ++ s ∷ []) next to retired total after lists are lawful (past-push g m.turns t past s kept.past_are kept.state_is) (live-not_asked g m (rw playing_now refl)) ((playing_means g m).0 playing_now).started refl
                (kept.lawful.ends_at_end (rw playing_now refl)) (is_next ∙ (ap (λ x. g.next x t.moves) kept.state_is ∙ sym (state_after-push g m.turns t)))
                (is_retired ∙ strikes-count g.roles m.setup.strikes (m.turns ++ t ∷ []) after strikes_are) (is_to ∙ ap (λ n. settled g n (retired == g.roles) next) (sym wide))
                (is_total ∙ (ap (λ n. n + count_by is_error t.errors) kept.substituted_is ∙ sym (sum_by_push (λ u. count_by is_error u.errors) m.turns t))) strikes_are moves goals_are

          pub value-recorded : record m { turns = m.turns ++ turn_of (parts g (record m { open_answers = set m.open_answers r (Some j) })) ∷ []; open_answers = blank g.roles } ≡ with_open_answer g m r (Some j)
          value-recorded = rw all refl

      pub turn-parts : (j : Judgement M) → still_answers m r ≡ true → (list : List (Option (Judgement M))) → list ≡ set (of_each_role g.roles (kept_part m.open_answers strikes legal)) r (Some j)
          → list ≡ parts g (record m { open_answers = set m.open_answers r (Some j) })
      turn-parts j answers list is =
          is
          ∙ of_each_role-set g.roles r (kept_part m.open_answers strikes legal) (part g (record m { open_answers = set m.open_answers r (Some j) })) (Some j)
          (ap (λ b. if b then at_role (set m.open_answers r (Some j)) r else substitute (g.legal (state_after g m.turns) r) Retired) answers ∙ at_role-set m.open_answers r (Some j) (omega (arith, kept.lawful.one_open_answer)))
          (λ k below other. other-part k below other)
        where
          other-part : (k : ℕ) → k < g.roles → k ≢ r → part g (record m { open_answers = set m.open_answers r (Some j) }) k ≡ kept_part m.open_answers strikes legal k
          other-part k below other =
              let known : is_retired_in strikes k ≡ is_retired m k = strikes-retired g.roles m.setup.strikes m.turns strikes kept.strikes_are k unstruck below in
              let moves : slice_index_or legal k [] ≡ g.legal (state_after g m.turns) k = (kept.legal_are playing).legal k [] below ∙ ap (λ x. g.legal x k) kept.state_is in
              step (is_retired_in strikes k) (is_retired m k) known (slice_index_or legal k []) moves
            where
              step : (a b : Bool) → a ≡ b → (l : List M) → l ≡ g.legal (state_after g m.turns) k
                  → (if not b then at_role (set m.open_answers r (Some j)) k else substitute (g.legal (state_after g m.turns) k) Retired) ≡ (if a then substitute l Retired else at_role m.open_answers k)
              step true true e l is = ap (λ (x : List M). substitute x Retired) (sym is)
              step true false e l is = absurd cc
              step false true e l is = absurd cc
              step false false e l is = at_role-other m.open_answers r k (Some j) other
