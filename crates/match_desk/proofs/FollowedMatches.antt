-- The answers that were taken for one match, from its opening.
use Rattle.std.proofs.Common.{◌≡◌, ◌≢◌, ℕ, zero, suc, ◌+◌, ◌<◌, ◌≤◌, Bool, true, false, eqb, Option, Some, None, List, [], ◌∷◌, ◌++◌, length, set, take, refl, arith, ap, sym, ◌∙◌, subst, length-append, ◌⊎◌, inl, inr}
use Rattle.std.proofs.lemmas.List.{take-append-le}
use Rattle.std.proofs.lemmas.Bool.Decides.{nat_tests}
use Rattle.std.proofs.Math.Seq.{take-append_seam}
use Rattle.std.specs.Prelude.{is_none, is_some, nat_lt, ◌==◌, if◌then◌else◌, not, slice_get}
use Rattle.game_core.specs.Play.{Rules}
use Rattle.match_book.specs.Roles.{every_role, at_role, is_there, blank}
use Rattle.match_book.specs.Judgement.{judgement, substitute}
use Rattle.match_book.specs.Retirement.{retired_by, is_retired}
use Rattle.match_book.specs.declared.judgement.Substitution.TheVariants.{Retired}
use Rattle.match_book.specs.MatchValue.{MatchValue, state_after, move_at, error_at}
use Rattle.match_book.specs.Phase.{stage, is_over, is_live, is_playing, still_answers, has_answered, answered_in, round, round_in}
use Rattle.match_book.specs.Lawful.{IsLawfulMatch}
use Rattle.match_book.specs.Laws.{HasPart, StartingMeans}
use Rattle.match_book.specs.Steps.{new_match, refusal, turn_of, parts, with_answer_in, with_abort, with_end_mark, after_answer, after_abort}
use Rattle.desk_calls.specs.declared.setup.Setup.{Setup}
use Rattle.desk_calls.specs.declared.answer.Answer.{Answer}
use Rattle.match_book.specs.Marks.{mark_of}
use Rattle.match_book.specs.declared.answer.Mark.{Mark}
use Rattle.match_book.specs.declared.answer.AnswerRefusal.TheVariants.{NoRole, Over, Stale, Twice}
use Rattle.match_book.specs.declared.judgement.Judgement.{Judgement}
use Rattle.match_book.specs.declared.turn.Turn.{Turn}
use Rattle.match_book.specs.declared.phase.Cause.TheVariants.{Asked, NoLegal, NoGoal, TooLong, AllRetired}
use Rattle.match_book.specs.declared.phase.Stage.{Stage}
use Rattle.match_book.specs.declared.phase.Stage.TheVariants.{Starting, Playing, Stopping, Aborting}
use Rattle.match_desk.specs.Accepted.{AreTaken}
use Rattle.match_desk.specs.Internal.MatchLaws.{MatchLaws}

-- ---- Lists with a place for each role

same_or_other : (k r : ℕ) → (k ≡ r) ⊎ (k ≢ r)
same_or_other k r = step (eqb k r) refl
  where
    same : (k r : ℕ) → eqb k r ≡ true → k ≡ r
    same k r e = grind (arith, nat_tests)

    other : (k r : ℕ) → eqb k r ≡ false → k ≢ r
    other k r e = grind (arith, nat_tests)

    step : (b : Bool) → eqb k r ≡ b → (k ≡ r) ⊎ (k ≢ r)
    step true e = inl (same k r e)
    step false e = inr (other k r e)

none_blank : {A : Type 0} (n r : ℕ) (x : A) → at_role (blank n) r ≡ Some x → ⊥
none_blank zero r x e = cc
none_blank (suc n) zero x e = cc
none_blank (suc n) (suc r) x e = none_blank n r x e

at_role-set : {A : Type 0} (xs : List (Option A)) (r : ℕ) (x : Option A) → r < length xs → at_role (set xs r x) r ≡ x
at_role-set [] r x lt = absurd (omega arith)
at_role-set (y ∷ ys) zero x lt = refl
at_role-set (y ∷ ys) (suc r) x lt = at_role-set ys r x (omega arith)

at_role-other : {A : Type 0} (xs : List (Option A)) (r k : ℕ) (x : Option A) → k ≢ r → at_role (set xs r x) k ≡ at_role xs k
at_role-other [] r k x ne = refl
at_role-other (y ∷ ys) zero zero x ne = absurd (ne refl)
at_role-other (y ∷ ys) zero (suc k) x ne = refl
at_role-other (y ∷ ys) (suc r) zero x ne = refl
at_role-other (y ∷ ys) (suc r) (suc k) x ne = at_role-other ys r k x (λ e. ne (ap suc e))

-- ---- The stage and the round of a match

stage-by : {S M : Type 0} (g : Rules S M) (m n : MatchValue M) → n.setup ≡ m.setup → n.abort_asked ≡ m.abort_asked → n.start_marks ≡ m.start_marks → n.turns ≡ m.turns → stage g n ≡ stage g m
unfolding stage
stage-by g m n setup asked starts turns = rw (setup, asked, starts, turns) refl

stage-asked : {S M : Type 0} (g : Rules S M) (m : MatchValue M) → m.abort_asked ≡ true → stage g m ≡ Aborting Asked
unfolding stage
stage-asked g m asked = rw asked refl

not_answered-parts : {M : Type 0} (m : MatchValue M) (k : ℕ) → answered_in Playing m k ≡ false → (still_answers m k ≡ true) × (is_there m.open_answers k ≡ false)
not_answered-parts m k free = step (still_answers m k) refl free
  where
    step : (b : Bool) → still_answers m k ≡ b → (if b then is_there m.open_answers k else true) ≡ false → (still_answers m k ≡ true) × (is_there m.open_answers k ≡ false)
    step true is free = (is, free)
    step false is free = absurd cc

-- ---- The answers of a match

-- The answers that were taken for a match, by role and round: one for each part of a recorded turn whose role was not retired, one for
-- each open answer, and none for later rounds.
pub record IsFollowed {S M : Type 0} (g : Rules S M) (m : MatchValue M) (taken : ℕ → ℕ → List Answer) : Type 0 where
  pub recorded : (turn role : ℕ) → turn < length m.turns → role < g.roles → AreTaken (retired_by m.setup.strikes (take turn m.turns) role) g m.turns turn role (taken role (turn + 1))
  pub open_one : (role : ℕ) (j : Judgement M) → role < g.roles → at_role m.open_answers role ≡ Some j → (a : Answer) × (taken role (length m.turns + 1) ≡ a ∷ []) × (judgement g (state_after g m.turns) role a ≡ Some j)
  pub open_none : stage g m ≡ Playing → (role : ℕ) → role < g.roles → at_role m.open_answers role ≡ None → taken role (length m.turns + 1) ≡ []
  pub later : (role n : ℕ) → round g m < n → taken role n ≡ []

pub followed-same : {S M : Type 0} (g : Rules S M) (m : MatchValue M) (old new : ℕ → ℕ → List Answer) → ((role n : ℕ) → new role n ≡ old role n) → IsFollowed g m old → IsFollowed g m new
followed-same g m old new same follows = record {
  recorded = λ turn role lt within. subst (λ (l : List Answer). AreTaken (retired_by m.setup.strikes (take turn m.turns) role) g m.turns turn role l) (sym (same role (turn + 1))) (follows.recorded turn role lt within);
  open_one = λ role j within at. let one = follows.open_one role j within at in (one.0, same role (length m.turns + 1) ∙ one.1, one.2);
  open_none = λ playing role within at. same role (length m.turns + 1) ∙ follows.open_none playing role within at;
  later = λ role n past. same role n ∙ follows.later role n past;
}

pub followed-new_match : {S M : Type 0} (g : Rules S M) (setup : Setup) (taken : ℕ → ℕ → List Answer) → ((role n : ℕ) → taken role n ≡ []) → IsFollowed g (new_match {M = M} g setup) taken
followed-new_match g setup taken none = record {
  recorded = λ turn role lt within. absurd (omega arith);
  open_one = λ role j within at. absurd (none_blank g.roles role j at);
  open_none = λ playing role within at. none role 1;
  later = λ role n past. none role n;
}

round_in-past : (at : Stage) (t : ℕ) → at ≢ Starting → t + 1 ≤ round_in at true t
round_in-past Starting t ne = absurd (ne refl)
round_in-past Playing t ne = omega arith
round_in-past Stopping t ne = omega arith
round_in-past (Aborting Asked) t ne = omega arith
round_in-past (Aborting (NoLegal r)) t ne = omega arith
round_in-past (Aborting (NoGoal r)) t ne = omega arith
round_in-past (Aborting TooLong) t ne = omega arith
round_in-past (Aborting AllRetired) t ne = omega arith

round-past : {S M : Type 0} (g : Rules S M) → StartingMeans g → (m : MatchValue M) → every_role g.roles (is_there m.start_marks) ≡ true → length m.turns + 1 ≤ round g m
round-past g starting m all =
    let not_start : stage g m ≢ Starting = λ e. let w : true ≡ false = sym all ∙ ((starting m).0 e).1 in absurd cc in
    subst (λ (b : Bool). length m.turns + 1 ≤ round_in (stage g m) b (length m.turns)) (sym all) (round_in-past (stage g m) (length m.turns) not_start)

round-turns : {S M : Type 0} (g : Rules S M) → StartingMeans g → (m : MatchValue M) → IsLawfulMatch g m → (turn : ℕ) → turn < length m.turns → turn + 1 < round g m
round-turns g starting m lawful turn lt = step (every_role g.roles (is_there m.start_marks)) refl
  where
    step : (b : Bool) → every_role g.roles (is_there m.start_marks) ≡ b → turn + 1 < round g m
    step true is = let past = round-past g starting m is in omega arith
    step false is = let none = lawful.turns_after_start is in absurd (omega (arith, ap length none))

round-playing : {S M : Type 0} (g : Rules S M) (m : MatchValue M) → stage g m ≡ Playing → round g m ≡ length m.turns + 1
round-playing g m playing = ap (λ (x : Stage). round_in x (every_role g.roles (is_there m.start_marks)) (length m.turns)) playing

not_answered : {S M : Type 0} (g : Rules S M) (m : MatchValue M) (role n : ℕ) → refusal g m role n ≡ None → has_answered g m role ≡ false
not_answered g m role n e = step (nat_lt role g.roles) (is_over g m) (n == round g m) (has_answered g m role) e
  where
    step : (within over here answered : Bool) → (if within then (if over then Some Over else (if here then (if answered then Some Twice else None) else Some (Stale (round g m)))) else Some NoRole) ≡ None → answered ≡ false
    step false over here answered e = absurd cc
    step true true here answered e = absurd cc
    step true false false answered e = absurd cc
    step true false true true e = absurd cc
    step true false true false e = refl

is_none-none : {A : Type 0} (o : Option A) → is_some o ≡ false → o ≡ None
is_none-none None e = refl
is_none-none (Some x) e = absurd cc

move_at-before : {M : Type 0} (turns : List (Turn M)) (t : Turn M) (turn role : ℕ) → turn < length turns → move_at (turns ++ t ∷ []) turn role ≡ move_at turns turn role
move_at-before [] t turn role lt = absurd (omega arith)
move_at-before (x ∷ xs) t zero role lt = refl
move_at-before (x ∷ xs) t (suc turn) role lt = move_at-before xs t turn role (omega arith)

error_at-before : {M : Type 0} (turns : List (Turn M)) (t : Turn M) (turn role : ℕ) → turn < length turns → error_at (turns ++ t ∷ []) turn role ≡ error_at turns turn role
error_at-before [] t turn role lt = absurd (omega arith)
error_at-before (x ∷ xs) t zero role lt = refl
error_at-before (x ∷ xs) t (suc turn) role lt = error_at-before xs t turn role (omega arith)

move_at-last : {M : Type 0} (turns : List (Turn M)) (t : Turn M) (role : ℕ) → move_at (turns ++ t ∷ []) (length turns) role ≡ slice_get t.moves role
move_at-last [] t role = refl
move_at-last (x ∷ xs) t role = move_at-last xs t role

error_at-last : {M : Type 0} (turns : List (Turn M)) (t : Turn M) (role : ℕ) → error_at (turns ++ t ∷ []) (length turns) role ≡ slice_get t.errors role
error_at-last [] t role = refl
error_at-last (x ∷ xs) t role = error_at-last xs t role

below_or_last : (k n : ℕ) → k < n + 1 → (k ≡ n) ⊎ (k < n)
below_or_last k n lt = grind arith

module _ {S M : Type 0} (g : Rules S M) (laws : MatchLaws g) (m : MatchValue M) (lawful : IsLawfulMatch g m) (taken : ℕ → ℕ → List Answer) (follows : IsFollowed g m taken) where
  -- An abort drops the open answers.
  pub followed-after_abort : IsFollowed g (after_abort g m) taken
  followed-after_abort = step (is_live (stage g m)) refl
    where
      aborting : stage g (with_abort g m) ≡ Aborting Asked
      aborting = stage-asked g (with_abort g m) refl

      past : (at : Stage) → stage g m ≡ at → is_live at ≡ true → (b : Bool) → every_role g.roles (is_there m.start_marks) ≡ b → round_in at b (length m.turns) ≤ round_in (Aborting Asked) b (length m.turns)
      past Starting is live b all = omega arith
      past Playing is live true all = omega arith
      past Playing is live false all = let w : true ≡ false = sym ((laws.playing m).0 is).started ∙ all in absurd cc
      past Stopping is live b all = absurd cc
      past (Aborting c) is live b all = absurd cc

      step : (b : Bool) → is_live (stage g m) ≡ b → IsFollowed g (if b then with_abort g m else m) taken
      step false ended = follows
      step true live = record {
        recorded = follows.recorded;
        open_one = λ role j within at. absurd (none_blank g.roles role j at);
        open_none = λ playing role within at. absurd (let w : Aborting Asked ≡ Playing = sym aborting ∙ playing in cc);
        later = λ role n after.
            let now : round g (with_abort g m) ≡ round_in (Aborting Asked) (every_role g.roles (is_there m.start_marks)) (length m.turns) =
            ap (λ (x : Stage). round_in x (every_role g.roles (is_there m.start_marks)) (length m.turns)) aborting
            in
            let less = past (stage g m) refl live (every_role g.roles (is_there m.start_marks)) refl in
            follows.later role n (omega arith);
      }

  module _ (role : ℕ) (answer : Answer) (free : refusal g m role (round g m) ≡ None) (new : ℕ → ℕ → List Answer) (here : new role (round g m) ≡ taken role (round g m) ++ answer ∷ [])
      (others : (r n : ℕ) → (r ≢ role) ⊎ (n ≢ round g m) → new r n ≡ taken r n) where
    is_role : role < g.roles
    is_role = (laws.for_round m role (round g m) free).0

    -- the recorded turns keep their answers
    recorded-same : (turn r : ℕ) → turn < length m.turns → r < g.roles → AreTaken (retired_by m.setup.strikes (take turn m.turns) r) g m.turns turn r (new r (turn + 1))
    recorded-same turn r lt within =
        let before = round-turns g laws.starting m lawful turn lt in
        subst (λ (l : List Answer). AreTaken (retired_by m.setup.strikes (take turn m.turns) r) g m.turns turn r l) (sym (others r (turn + 1) (inr (λ e. omega arith)))) (follows.recorded turn r lt within)

    later-same : (r n : ℕ) → round g m < n → new r n ≡ []
    later-same r n after = others r n (inr (λ e. omega arith)) ∙ follows.later r n after

    -- an answer outside of play
    module _ (n : MatchValue M) (setup : n.setup ≡ m.setup) (turns : n.turns ≡ m.turns) (answers : n.open_answers ≡ blank g.roles) (past : round g m ≤ round g n) (begins : stage g n ≡ Playing → round g m < length m.turns + 1) where
      followed-mark : IsFollowed g n new
      followed-mark = record {
        recorded = λ turn r lt within.
            subst (λ (x : Setup). AreTaken (retired_by x.strikes (take turn n.turns) r) g n.turns turn r (new r (turn + 1))) (sym setup)
            (subst (λ (l : List (Turn M)). AreTaken (retired_by m.setup.strikes (take turn l) r) g l turn r (new r (turn + 1))) (sym turns) (recorded-same turn r (subst (λ (l : List (Turn M)). turn < length l) turns lt) within));
        open_one = λ r j within at. absurd (none_blank g.roles r j (ap (λ l. at_role l r) (sym answers) ∙ at));
        open_none = λ playing r within at.
            let wide : length n.turns ≡ length m.turns = ap length turns in
            let less = begins playing in
            later-same r (length n.turns + 1) (omega arith);
        later = λ r k after. later-same r k (omega arith);
      }

    module _ (playing : stage g m ≡ Playing) where
      round_is : round g m ≡ length m.turns + 1
      round_is = round-playing g m playing

      unanswered : (still_answers m role ≡ true) × (is_there m.open_answers role ≡ false)
      unanswered = not_answered-parts m role (subst (λ (x : Stage). answered_in x m role ≡ false) playing (not_answered g m role (round g m) free))

      open_here : at_role m.open_answers role ≡ None
      open_here = is_none-none (at_role m.open_answers role) unanswered.1

      none_before : taken role (length m.turns + 1) ≡ []
      none_before = follows.open_none playing role is_role open_here

      module _ (j : Judgement M) (is : judgement g (state_after g m.turns) role answer ≡ Some j) where
        -- the open answers and this one, each with the one answer that was taken for it
        more : List (Option (Judgement M))
        more = set m.open_answers role (Some j)

        more-one : (r : ℕ) (i : Judgement M) → r < g.roles → at_role more r ≡ Some i → (a : Answer) × (new r (length m.turns + 1) ≡ a ∷ []) × (judgement g (state_after g m.turns) r a ≡ Some i)
        unfolding more
        more-one r i within at =
            elim (same_or_other r role) [
              | inl same ↦
                  let w : Some j ≡ Some i = sym (at_role-set m.open_answers role (Some j) (omega (arith, lawful.one_open_answer))) ∙ (ap (at_role (set m.open_answers role (Some j))) (sym same) ∙ at) in
                  let one : new role (length m.turns + 1) ≡ answer ∷ [] = subst (λ (k : ℕ). new role k ≡ taken role k ++ answer ∷ []) round_is here ∙ ap (λ l. l ++ answer ∷ []) none_before in
                  (answer, subst (λ (k : ℕ). new k (length m.turns + 1) ≡ answer ∷ []) (sym same) one, subst (λ (k : ℕ). judgement g (state_after g m.turns) k answer ≡ Some i) (sym same) (is ∙ w))
              | inr other ↦
                  let one = follows.open_one r i within (sym (at_role-other m.open_answers role r (Some j) other) ∙ at) in
                  (one.0, others r (length m.turns + 1) (inl other) ∙ one.1, one.2)
            ]

        followed-open : (n : MatchValue M) → n ≡ record m { open_answers = set m.open_answers role (Some j) } → IsFollowed g n new
        unfolding more
        followed-open n now = subst (λ (x : MatchValue M). IsFollowed g x new) (sym now) (record {
          recorded = recorded-same;
          open_one = more-one;
          open_none = λ still r within at.
              elim (same_or_other r role) [
                | inl same ↦ absurd (let w : Some j ≡ None = sym (at_role-set m.open_answers role (Some j) (omega (arith, lawful.one_open_answer))) ∙ (ap (at_role (set m.open_answers role (Some j))) (sym same) ∙ at) in cc)
                | inr other ↦ others r (length m.turns + 1) (inl other) ∙ follows.open_none playing r within (sym (at_role-other m.open_answers role r (Some j) other) ∙ at)
              ];
          later = λ r k after.
              let same : stage g (record m { open_answers = set m.open_answers role (Some j) }) ≡ stage g m = stage-by g m (record m { open_answers = set m.open_answers role (Some j) }) refl refl refl refl in
              later-same r k (subst (λ (x : Stage). round_in x (every_role g.roles (is_there m.start_marks)) (length m.turns) < k) same after);
        })

        module _ (has_part : (r : ℕ) → r < g.roles → HasPart g (record m { open_answers = set m.open_answers role (Some j) }) r) where
          t : Turn M
          t = turn_of (parts g (record m { open_answers = set m.open_answers role (Some j) }))

          -- a retired role has no open answer, and none of its answers was taken
          retired-none : (r : ℕ) → r < g.roles → is_retired m r ≡ true → new r (length m.turns + 1) ≡ []
          retired-none r within out =
              let other : r ≢ role = λ e. let w : false ≡ true = sym (ap not (subst (λ (k : ℕ). is_retired m k ≡ true) e out)) ∙ unanswered.0 in cc in
              others r (length m.turns + 1) (inl other) ∙ follows.open_none playing r within (none (at_role m.open_answers r) refl)
            where
              none : (o : Option (Judgement M)) → at_role m.open_answers r ≡ o → at_role m.open_answers r ≡ None
              none None e = e
              none (Some i) e = absurd (let w : false ≡ true = sym (ap not out) ∙ (lawful.judged r i within e).0 in cc)

          last-answered : (r : ℕ) → r < g.roles → AreTaken (retired_by m.setup.strikes (take (length m.turns) (m.turns ++ t ∷ [])) r) g (m.turns ++ t ∷ []) (length m.turns) r (new r (length m.turns + 1))
          unfolding more t
          last-answered r within =
              subst (λ (l : List (Turn M)). AreTaken (retired_by m.setup.strikes l r) g (m.turns ++ t ∷ []) (length m.turns) r (new r (length m.turns + 1))) (sym (take-append_seam m.turns (t ∷ []))) (step (is_retired m r) refl)
            where
              step : (b : Bool) → is_retired m r ≡ b
                  → AreTaken b g (m.turns ++ turn_of (parts g (record m { open_answers = set m.open_answers role (Some j) })) ∷ []) (length m.turns) r (new r (length m.turns + 1))
              step true out = retired-none r within out
              step false in' =
                  let here = has_part r within in
                  let open' : at_role (set m.open_answers role (Some j)) r ≡ Some here.judged =
                  sym (ap (λ b. if not b then at_role (set m.open_answers role (Some j)) r else substitute (g.legal (state_after g m.turns) r) Retired) in') ∙ here.is_part
                  in
                  let one = more-one r here.judged within open' in
                  let before : take (length m.turns) (m.turns ++ t ∷ []) ≡ m.turns = take-append_seam m.turns (t ∷ []) in
                  record {
                    answer = one.0;
                    one = one.1;
                    judged = here.judged;
                    is_judgement = ap (λ (l : List (Turn M)). judgement g (state_after g l) r one.0) before ∙ one.2;
                    move_is = move_at-last m.turns t r ∙ here.move;
                    error_is = error_at-last m.turns t r ∙ here.error;
                    no_error = laws.named (state_after g m.turns) r one.0 here.judged one.2;
                  }

          before-answered : (turn r : ℕ) → turn < length m.turns → r < g.roles → AreTaken (retired_by m.setup.strikes (take turn (m.turns ++ t ∷ [])) r) g (m.turns ++ t ∷ []) turn r (new r (turn + 1))
          before-answered turn r lt within =
              let before : take turn (m.turns ++ t ∷ []) ≡ take turn m.turns = take-append-le turn m.turns (t ∷ []) (omega arith) in
              subst (λ (l : List (Turn M)). AreTaken (retired_by m.setup.strikes l r) g (m.turns ++ t ∷ []) turn r (new r (turn + 1))) (sym before)
              (step (retired_by m.setup.strikes (take turn m.turns) r) (recorded-same turn r lt within))
            where
              step : (b : Bool) → AreTaken b g m.turns turn r (new r (turn + 1)) → AreTaken b g (m.turns ++ t ∷ []) turn r (new r (turn + 1))
              step true none = none
              step false old = record {
                answer = old.answer;
                one = old.one;
                judged = old.judged;
                is_judgement = ap (λ (l : List (Turn M)). judgement g (state_after g l) r old.answer) (take-append-le turn m.turns (t ∷ []) (omega arith)) ∙ old.is_judgement;
                move_is = move_at-before m.turns t turn r lt ∙ old.move_is;
                error_is = error_at-before m.turns t turn r lt ∙ old.error_is;
                no_error = old.no_error;
              }

          followed-turn : (n : MatchValue M) → n ≡ record m { turns = m.turns ++ t ∷ []; open_answers = blank g.roles } → IsFollowed g n new
          followed-turn n now =
              let long : length (m.turns ++ t ∷ []) ≡ length m.turns + 1 = length-append m.turns (t ∷ []) in
              let started : every_role g.roles (is_there m.start_marks) ≡ true = ((laws.playing m).0 playing).started in
              let past = round-past g laws.starting (record m { turns = m.turns ++ t ∷ []; open_answers = blank g.roles }) started in
              subst (λ (x : MatchValue M). IsFollowed g x new) (sym now) (record {
                recorded = λ turn r lt within.
                    elim (below_or_last turn (length m.turns) (omega arith)) [
                      | inl last ↦ subst (λ (k : ℕ). AreTaken (retired_by m.setup.strikes (take k (m.turns ++ t ∷ [])) r) g (m.turns ++ t ∷ []) k r (new r (k + 1))) (sym last) (last-answered r within)
                      | inr below ↦ before-answered turn r below within
                    ];
                open_one = λ r i within at. absurd (none_blank g.roles r i at);
                open_none = λ still r within at. later-same r (length (m.turns ++ t ∷ []) + 1) (omega (arith, round_is));
                later = λ r k after. later-same r k (omega (arith, round_is));
              })

    -- an answer to STOP or ABORT
    followed-end : (mark : Mark) → stage g m ≢ Playing → is_playing (stage g m) ≡ false → IsFollowed g (with_end_mark m role mark) new
    followed-end mark out not_playing =
        let same : stage g (with_end_mark m role mark) ≡ stage g m = stage-by g m (with_end_mark m role mark) refl refl refl refl in
        let rounds : round g (with_end_mark m role mark) ≡ round g m = ap (λ (x : Stage). round_in x (every_role g.roles (is_there m.start_marks)) (length m.turns)) same in
        followed-mark (with_end_mark m role mark) refl refl (lawful.answers_in_play not_playing) (omega (arith, rounds)) (λ e. absurd (out (sym same ∙ e)))

    followed-start : stage g m ≡ Starting → IsFollowed g (with_answer_in Starting g m role answer) new
    followed-start is =
        let first : round g m ≡ 0 = ap (λ (x : Stage). round_in x (every_role g.roles (is_there m.start_marks)) (length m.turns)) is in
        followed-mark (with_answer_in Starting g m role answer) refl refl (lawful.answers_in_play (ap is_playing is)) (omega (arith, first)) (λ _. omega (arith, first))

    after_is : (at : Stage) → stage g m ≡ at → IsFollowed g (with_answer_in at g m role answer) new → IsFollowed g (after_answer g m role (round g m) answer) new
    after_is at is followed =
        let now : after_answer g m role (round g m) answer ≡ with_answer_in at g m role answer =
        ap (λ o. if is_none o then with_answer_in (stage g m) g m role answer else m) free ∙ ap (λ (x : Stage). with_answer_in x g m role answer) is
        in
        subst (λ (x : MatchValue M). IsFollowed g x new) (sym now) followed

    pub followed-after_answer : IsFollowed g (after_answer g m role (round g m) answer) new
    unfolding t
    followed-after_answer = by (stage g m) refl
      where
        by : (at : Stage) → stage g m ≡ at → IsFollowed g (after_answer g m role (round g m) answer) new
        by Starting is = after_is Starting is (followed-start is)
        by Playing is =
            let played = laws.in_play m role (round g m) answer lawful is free in
            elim played.opened_or_recorded [
              | inl opened ↦ followed-open is played.judged played.is_judgement (after_answer g m role (round g m) answer) opened
              | inr recorded ↦ followed-turn is played.judged played.is_judgement recorded.1 (after_answer g m role (round g m) answer) recorded.0
            ]
        by Stopping is = after_is Stopping is (followed-end (mark_of answer) (λ e. let w : Stopping ≡ Playing = sym is ∙ e in absurd cc) (ap is_playing is))
        by (Aborting c) is = after_is (Aborting c) is (followed-end (mark_of answer) (λ e. let w : Aborting c ≡ Playing = sym is ∙ e in absurd cc) (ap is_playing is))
