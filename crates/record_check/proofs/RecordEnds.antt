-- The end of a record: goals, phase, cause and marks.
use Rattle.std.proofs.Common.{◌≡◌, ℕ, zero, suc, ◌<◌, ◌≤◌, Bool, true, false, Option, Some, None, List, [], ◌∷◌, ◌++◌, length, take, refl, sym, ap, ap₂, ◌∙◌, subst, arith, inl, inr, add-one}
use Rattle.std.proofs.Math.Nat.{eq-or-lt_of_le}
use Rattle.std.specs.Prelude.{slice_index_or, slice_get, option_to_list, is_none, if◌then◌else◌, nat_le, IsTrue, ◌↔◌, ◌==◌}
use Rattle.std.proofs.lemmas.List.{length_push, nil_from_length, take_all, take_more}
use Rattle.std.proofs.lemmas.Option.{slice_get-get_or}
use Rattle.game_core.specs.Play.{Rules}
use Rattle.match_book.specs.Retirement.{are_all_retired}
use Rattle.match_book.specs.Roles.{every_role, lowest_role, is_there}
use Rattle.match_book.specs.MatchValue.{MatchValue, state_after}
use Rattle.match_book.specs.Phase.{stage, settled, after_the_end, before_the_end, phase, phase_in, cause, cause_in, goal_in, goal_of, is_live, max_turns, has_no_goal, has_no_move}
use Rattle.match_book.specs.Lawful.{IsLawfulMatch}
use Rattle.match_book.specs.Laws.{StoppingMeans}
use Rattle.match_book.specs.declared.phase.Cause.TheVariants.{Asked, TooLong}
use Rattle.match_book.specs.declared.phase.Stage.{Stage}
use Rattle.match_book.specs.declared.phase.Stage.TheVariants.{Starting, Playing, Stopping, Aborting}
use Rattle.match_book.specs.declared.turn.Turn.{Turn}
use Rattle.record_reading.specs.RecordParts.{parts_in, goals_from}
use Rattle.record_check.specs.Replaying.{AreGoalsOf, AreGoalsIn, IsRightEnd, match_of, is_asked}
use Rattle.record_check.specs.Internal.ReplaySteps.{stage_by, has_started, has_ended, AgreesWith, AreRetired, IsEndAnswer}
use Rattle.record_reading.specs.declared.record_parts.RecordParts.{RecordParts}

get-before : {A : Type 0} (xs : List A) (y : A) (k : ℕ) → k < length xs → slice_get (xs ++ y ∷ []) k ≡ slice_get xs k
get-before [] y k lt = absurd (omega arith)
get-before (x ∷ xs) y zero lt = refl
get-before (x ∷ xs) y (suc k) lt = get-before xs y k (omega arith)

get-last : {A : Type 0} (xs : List A) (y : A) → slice_get (xs ++ y ∷ []) (length xs) ≡ Some y
get-last [] y = refl
get-last (x ∷ xs) y = get-last xs y

goals_from-none : (n : ℕ) (f : ℕ → Option ℕ) → ((r : ℕ) → f r ≡ None) → goals_from n f ≡ []
goals_from-none zero f none = refl
goals_from-none (suc n) f none = rw (goals_from-none n f none, none n) refl

record AreAll (n : ℕ) (f : ℕ → Option ℕ) (goals : List ℕ) : Type 0 where
  many : length goals ≡ n
  each : (r : ℕ) → r < n → f r ≡ slice_get goals r

goals_from-all : (n : ℕ) (f : ℕ → Option ℕ) → ((r : ℕ) → r < n → is_none (f r) ≡ false) → AreAll n f (goals_from n f)
goals_from-all zero f some = record { many = refl; each = λ r lt. absurd (omega arith) }
goals_from-all (suc n) f some = step (f n) refl (some n (omega arith)) (goals_from-all n f (λ r lt. some r (omega arith)))
  where
    step : (o : Option ℕ) → f n ≡ o → is_none (f n) ≡ false → AreAll n f (goals_from n f) → AreAll (suc n) f (goals_from n f ++ option_to_list (f n))
    step None is some far = let w : is_none (f n) ≡ true = ap is_none is in absurd cc
    step (Some v) is some far =
        let longer : goals_from n f ++ v ∷ [] ≡ goals_from n f ++ option_to_list (f n) = ap (λ o. goals_from n f ++ option_to_list o) (sym is) in
        subst (AreAll (suc n) f) longer
        (record {
          many = length_push (goals_from n f) v ∙ omega (arith, far.many);
          each = λ r lt.
              elim (eq-or-lt_of_le {n = r} {m = n} (omega (arith, lt))) [
                | inl last ↦
                    subst (λ k. f k ≡ slice_get (goals_from n f ++ v ∷ []) k) (sym last)
                    (is ∙ sym (ap (slice_get (goals_from n f ++ v ∷ [])) (sym far.many) ∙ get-last (goals_from n f) v))
                | inr below ↦ far.each r below ∙ sym (get-before (goals_from n f) v r (omega (arith, far.many)))
              ];
        })

goals_from-front : (n : ℕ) (f : ℕ → Option ℕ) (goals : List ℕ) → n ≤ length goals → ((r : ℕ) → r < n → f r ≡ slice_get goals r) → goals_from n f ≡ take n goals
goals_from-front zero f goals le each = refl
goals_from-front (suc n) f goals le each =
    let at : slice_get goals n ≡ Some (slice_index_or goals n 0) = slice_get-get_or goals n 0 (omega arith) in
    let here : f n ≡ Some (slice_index_or goals n 0) = each n (omega arith) ∙ at in
    let more : take (suc n) goals ≡ take n goals ++ slice_index_or goals n 0 ∷ [] = rw add-one at (take_more goals n 0 (omega arith)) in
    ap (λ gs. gs ++ option_to_list (f n)) (goals_from-front n f goals (omega arith) (λ r lt. each r (omega arith))) ∙ ap (λ o. take n goals ++ option_to_list o) here ∙ sym more

pub goals-shown : {S M : Type 0} (g : Rules S M) (s : S) (at : Stage) (ended : Bool) (goals : List ℕ) → AreGoalsIn g (phase_in at ended) s goals → goals_from g.roles (goal_in at g s) ≡ goals
goals-shown g s Starting ended goals are = goals_from-none g.roles (goal_in Starting g s) (λ r. refl) ∙ sym are
goals-shown g s Playing ended goals are = goals_from-none g.roles (goal_in Playing g s) (λ r. refl) ∙ sym are
goals-shown g s Stopping true goals are = goals_from-front g.roles (g.goal s) goals (omega (arith, are.0)) are.1 ∙ take_all g.roles goals (omega (arith, are.0))
goals-shown g s Stopping false goals are = goals_from-front g.roles (g.goal s) goals (omega (arith, are.0)) are.1 ∙ take_all g.roles goals (omega (arith, are.0))
goals-shown g s (Aborting c) true goals are = goals_from-none g.roles (goal_in (Aborting c) g s) (λ r. refl) ∙ sym are
goals-shown g s (Aborting c) false goals are = goals_from-none g.roles (goal_in (Aborting c) g s) (λ r. refl) ∙ sym are

goals-all : {S M : Type 0} (g : Rules S M) (s : S) → ((r : ℕ) → r < g.roles → has_no_goal g s r ≡ false) → AreGoalsOf g s (goals_from g.roles (g.goal s))
goals-all g s some = let all = goals_from-all g.roles (g.goal s) some in (all.many, all.each)

goals-in : {S M : Type 0} (g : Rules S M) (s : S) (at : Stage) (ended : Bool) → (at ≡ Stopping → (r : ℕ) → r < g.roles → has_no_goal g s r ≡ false) → AreGoalsIn g (phase_in at ended) s (goals_from g.roles (goal_in at g s))
goals-in g s Starting ended some = goals_from-none g.roles (goal_in Starting g s) (λ r. refl)
goals-in g s Playing ended some = goals_from-none g.roles (goal_in Playing g s) (λ r. refl)
goals-in g s Stopping true some = goals-all g s (some refl)
goals-in g s Stopping false some = goals-all g s (some refl)
goals-in g s (Aborting c) true some = goals_from-none g.roles (goal_in (Aborting c) g s) (λ r. refl)
goals-in g s (Aborting c) false some = goals_from-none g.roles (goal_in (Aborting c) g s) (λ r. refl)

module _ {S M : Type 0} (g : Rules S M) (p : RecordParts) (turns : List (Turn M)) (s : S) (retired : ℕ) (many : length turns ≡ length p.moves) (at : s ≡ state_after g turns) (out : AreRetired g p turns retired) where
  settles : settled g (length turns) (are_all_retired g.roles (match_of g p turns)) (state_after g turns) ≡ settled g (length p.moves) (retired == g.roles) s
  settles = ap₂ (λ n (all : Bool). settled g n all (state_after g turns)) many out ∙ ap (settled g (length p.moves) (retired == g.roles)) (sym at)

  stage-is : stage g (match_of g p turns) ≡ stage_by (is_asked p.cause) (has_started g.roles p) (settled g (length p.moves) (retired == g.roles) s)
  unfolding stage
  stage-is = ap (stage_by (is_asked p.cause) (has_started g.roles p)) settles

  unasked-is : stage g (record (match_of g p turns) { abort_asked = false }) ≡ stage_by false (has_started g.roles p) (settled g (length p.moves) (retired == g.roles) s)
  unfolding stage
  unasked-is = ap (stage_by false (has_started g.roles p)) settles

  pub right-from_agrees : AgreesWith g.roles p (settled g (length p.moves) (retired == g.roles) s) → IsRightEnd g p turns
  right-from_agrees agrees = record {
    phase_is = ap (λ (x : Stage). phase_in x (has_ended g.roles p)) stage-is ∙ agrees.phase_is;
    cause_is = ap cause_in stage-is ∙ agrees.cause_is;
    turns_after_start = λ e. nil_from_length turns (many ∙ agrees.turns_after_start e);
    ends_at_end = λ e. agrees.ends_at_end (ap is_live (sym stage-is) ∙ e);
    asked_when_live = λ e. ap is_live unasked-is ∙ agrees.asked_when_live e;
  }

  pub agrees-from_right : IsRightEnd g p turns → AgreesWith g.roles p (settled g (length p.moves) (retired == g.roles) s)
  agrees-from_right right = record {
    phase_is = ap (λ (x : Stage). phase_in x (has_ended g.roles p)) (sym stage-is) ∙ right.phase_is;
    cause_is = ap cause_in (sym stage-is) ∙ right.cause_is;
    turns_after_start = λ e. sym many ∙ ap length (right.turns_after_start e);
    ends_at_end = λ e. right.ends_at_end (ap is_live stage-is ∙ e);
    asked_when_live = λ e. ap is_live (sym unasked-is) ∙ right.asked_when_live e;
  }

pub end-answer : {S M : Type 0} (g : Rules S M) (p : RecordParts) (s : S) (retired roles : ℕ) (at : Stage) (right : Bool) → roles ≡ g.roles → at ≡ settled g (length p.moves) (retired == g.roles) s → IsTrue right ↔ AgreesWith roles p at
    → IsEndAnswer g p s retired right
end-answer {S} {M} g p s retired roles at right same_roles same_stage agrees turns many is out = (
  λ yes. right-from_agrees g p turns s retired many is out (subst (λ n. AgreesWith n p (settled g (length p.moves) (retired == g.roles) s)) same_roles (subst (λ (x : Stage). AgreesWith roles p x) same_stage (agrees.0 yes))),
  λ end. agrees.1 (subst (λ (x : Stage). AgreesWith roles p x) (sym same_stage) (subst (λ n. AgreesWith n p (settled g (length p.moves) (retired == g.roles) s)) (sym same_roles) (agrees-from_right g p turns s retired many is out end))),
)

settled-not_asked : {S M : Type 0} (g : Rules S M) (t : ℕ) (out : Bool) (s : S) → is_asked (cause_in (settled g t out s)) ≡ false
unfolding settled
settled-not_asked g t out s = step (g.terminal s) (nat_le max_turns t) out (lowest_role g.roles (has_no_goal g s)) (lowest_role g.roles (has_no_move g s))
  where
    step : (over long out : Bool) (goals moves : Option ℕ) → is_asked (cause_in (if over then after_the_end goals else (if long then Aborting TooLong else before_the_end moves out))) ≡ false
    step true long out None moves = refl
    step true long out (Some r) moves = refl
    step false true out goals moves = refl
    step false false true goals None = refl
    step false false false goals None = refl
    step false false out goals (Some r) = refl

stage-by : {S M : Type 0} (g : Rules S M) (m n : MatchValue M) → n.setup ≡ m.setup → n.abort_asked ≡ m.abort_asked → n.start_marks ≡ m.start_marks → n.turns ≡ m.turns → stage g n ≡ stage g m
unfolding stage
stage-by g m n setup asked starts turns = rw (setup, asked, starts, turns) refl

asked-is : {S M : Type 0} (g : Rules S M) (m : MatchValue M) → is_asked (cause g m) ≡ m.abort_asked
unfolding stage
asked-is g m = step m.abort_asked (every_role g.roles (is_there m.start_marks)) (settled g (length m.turns) (are_all_retired g.roles m) (state_after g m.turns)) (settled-not_asked g (length m.turns) (are_all_retired g.roles m) (state_after g m.turns))
  where
    step : (a all : Bool) (rest : Stage) → is_asked (cause_in rest) ≡ false → is_asked (cause_in (if a then Aborting Asked else (if all then rest else Starting))) ≡ a
    step true all rest other = refl
    step false true rest other = other
    step false false rest other = refl

module _ {S M : Type 0} (g : Rules S M) (m : MatchValue M) (lawful : IsLawfulMatch g m) (p : RecordParts) (shows : parts_in g p.version m ≡ p) where
  starts-same : p.start_marks ≡ m.start_marks
  starts-same = sym (ap (λ (q : RecordParts). q.start_marks) shows)

  ends-same : p.end_marks ≡ m.end_marks
  ends-same = sym (ap (λ (q : RecordParts). q.end_marks) shows)

  asked-same : is_asked p.cause ≡ m.abort_asked
  asked-same = ap (λ (q : RecordParts). is_asked q.cause) (sym shows) ∙ asked-is g m

  setup-same : (match_of g p m.turns).setup ≡ m.setup
  setup-same = λ i. record {
    id = sym (ap (λ (q : RecordParts). q.id) shows) i;
    start = sym (ap (λ (q : RecordParts). q.start) shows) i;
    play = sym (ap (λ (q : RecordParts). q.play) shows) i;
    strikes = sym (ap (λ (q : RecordParts). q.strikes) shows) i;
    players = sym (ap (λ (q : RecordParts). q.players) shows) i;
  }

  same-stage : stage g (match_of g p m.turns) ≡ stage g m
  same-stage = stage-by g m (match_of g p m.turns) setup-same asked-same starts-same refl

  same-unasked : stage g (record (match_of g p m.turns) { abort_asked = false }) ≡ stage g (record m { abort_asked = false })
  same-unasked = stage-by g (record m { abort_asked = false }) (record (match_of g p m.turns) { abort_asked = false }) setup-same refl starts-same refl

  pub lawful-right_end : IsRightEnd g p m.turns
  lawful-right_end = record {
    phase_is = ap₂ (λ (x : Stage) marks. phase_in x (every_role g.roles (is_there marks))) same-stage ends-same ∙ ap (λ (q : RecordParts). q.phase) shows;
    cause_is = ap cause_in same-stage ∙ ap (λ (q : RecordParts). q.cause) shows;
    turns_after_start = λ e. lawful.turns_after_start (ap (λ marks. every_role g.roles (is_there marks)) (sym starts-same) ∙ e);
    ends_at_end = λ e. ends-same ∙ lawful.ends_at_end (ap is_live (sym same-stage) ∙ e);
    asked_when_live = λ e. ap is_live same-unasked ∙ lawful.asked_when_live (sym asked-same ∙ e);
  }

  pub lawful-goals : StoppingMeans g → (s : S) → s ≡ state_after g m.turns → AreGoalsIn g p.phase s p.goals
  lawful-goals stops s at =
      let here : AreGoalsIn g (phase g m) (state_after g m.turns) (goals_from g.roles (goal_of g m)) =
      goals-in g (state_after g m.turns) (stage g m) (every_role g.roles (is_there m.end_marks)) (λ stopping. ((stops m).0 stopping).goals) in
      subst (λ (x : S). AreGoalsIn g p.phase x p.goals) (sym at) (subst (λ (q : RecordParts). AreGoalsIn g q.phase (state_after g m.turns) q.goals) shows here)
