-- A match ends after a bounded number of rounds.
use Rattle.std.proofs.Common.{◌≡◌, ◌≢◌, ℕ, zero, suc, ◌+◌, ◌-◌, ◌<◌, ◌≤◌, Bool, true, false, Option, Some, None, List, [], ◌∷◌, ◌++◌, length, set, refl, arith, ap, sym, ◌∙◌, subst, inl, inr, length-append}
use Rattle.std.specs.Prelude.{◌⊎◌, is_none, is_some, if◌then◌else◌}
use Rattle.game_core.specs.Play.{Rules, IsLawful}
use Rattle.desk_calls.specs.Phases.{is_last}
use Rattle.desk_calls.specs.declared.answer.Answer.{Answer}
use Rattle.desk_calls.specs.declared.due.Due.{Due}
use Rattle.desk_calls.specs.declared.due.Due.TheVariants.{Owe, Hold, Over}
use Rattle.match_book.specs.Roles.{every_role, is_there, blank}
use Rattle.match_book.specs.Marks.{mark_of}
use Rattle.match_book.specs.MatchValue.{MatchValue, state_after}
use Rattle.match_book.specs.Phase.{stage, settled, still_answers, answered_in, has_answered, phase_in, is_over, is_live, round, round_in, max_turns}
use Rattle.match_book.specs.Retirement.{are_all_retired}
use Rattle.match_book.specs.Lawful.{IsLawfulMatch}
use Rattle.match_book.specs.Steps.{refusal, turn_of, parts, with_start_mark, with_end_mark, with_answer_in, with_answer, after_answer}
use Rattle.match_book.specs.Due.{due, owed_in, last_move_texts}
use Rattle.match_book.specs.Rounds.{IsAfterAnswer, IsAfterDue, HaveAnswered, AreRounds}
use Rattle.match_book.specs.Laws.{HasPart, IsPlayed, RoundsEnd, ReadingsAreFolded}
use Rattle.match_book.specs.declared.answer.AnswerRefusal.{AnswerRefusal}
use Rattle.match_book.specs.declared.answer.AnswerRefusal.TheVariants.{Twice}
use Rattle.match_book.specs.declared.answer.Mark.{Mark}
use Rattle.match_book.specs.declared.turn.Turn.{Turn}
use Rattle.match_book.specs.declared.phase.Stage.{Stage}
use Rattle.match_book.specs.declared.phase.Stage.TheVariants.{Starting, Playing, Stopping, Aborting}
use Rattle.match_book.proofs.RoleTests.{same_or_other, at_role-set, at_role-other, every_role-all, below_or_at}
use Rattle.match_book.proofs.Stages.{stage-by, stage-starting, stage-settled, settled-not_starting, starting-missing, live-not_asked, playing_means}
use Rattle.match_book.proofs.AnswerLaws.{taken, less_is, same_is, answers_keep_lawful, answers_in_play}

-- ---- The largest number of rounds that are left, at a stage, after t turns

abbrev left_in : Stage → Bool → ℕ → ℕ
left_in Starting ended t = max_turns + 2
left_in Playing ended t = (max_turns - t) + 1
left_in Stopping ended t = if ended then 0 else 1
left_in (Aborting c) ended t = if ended then 0 else 1

abbrev all_ended : {S M : Type 0} → Rules S M → MatchValue M → Bool
all_ended g m = every_role g.roles (is_there m.end_marks)

abbrev left : {S M : Type 0} → Rules S M → MatchValue M → ℕ
left g m = left_in (stage g m) (all_ended g m) (length m.turns)

none_left : (at : Stage) (ended : Bool) (t : ℕ) → left_in at ended t ≡ 0 → is_last (phase_in at ended) ≡ true
none_left Starting ended t none = let w : max_turns + 2 ≡ 0 = none in absurd (omega (arith, w))
none_left Playing ended t none = let w : (max_turns - t) + 1 ≡ 0 = none in absurd (omega (arith, w))
none_left Stopping true t none = refl
none_left Stopping false t none = absurd cc
none_left (Aborting c) true t none = refl
none_left (Aborting c) false t none = absurd cc

over_left : (at : Stage) (ended : Bool) (t : ℕ) → is_last (phase_in at ended) ≡ true → left_in at ended t ≡ 0
over_left Starting ended t over = absurd cc
over_left Playing ended t over = absurd cc
over_left Stopping true t over = refl
over_left Stopping false t over = absurd cc
over_left (Aborting c) true t over = refl
over_left (Aborting c) false t over = absurd cc

most_left : (at : Stage) (ended : Bool) (t : ℕ) → left_in at ended t ≤ max_turns + 2
most_left Starting ended t = let w : max_turns + 2 ≤ max_turns + 2 = omega arith in w
most_left Playing ended t = let w : (max_turns - t) + 1 ≤ max_turns + 2 = omega arith in w
most_left Stopping true t = let w : 0 ≤ max_turns + 2 = omega arith in w
most_left Stopping false t = let w : 1 ≤ max_turns + 2 = omega arith in w
most_left (Aborting c) true t = let w : 0 ≤ max_turns + 2 = omega arith in w
most_left (Aborting c) false t = let w : 1 ≤ max_turns + 2 = omega arith in w

settled_left : (at : Stage) (ended : Bool) (t : ℕ) → at ≢ Starting → left_in at ended t ≤ (max_turns - t) + 1
settled_left Starting ended t ne = absurd (ne refl)
settled_left Playing ended t ne = let w : (max_turns - t) + 1 ≤ (max_turns - t) + 1 = omega arith in w
settled_left Stopping true t ne = let w : 0 ≤ (max_turns - t) + 1 = omega arith in w
settled_left Stopping false t ne = let w : 1 ≤ (max_turns - t) + 1 = omega arith in w
settled_left (Aborting c) true t ne = let w : 0 ≤ (max_turns - t) + 1 = omega arith in w
settled_left (Aborting c) false t ne = let w : 1 ≤ (max_turns - t) + 1 = omega arith in w

-- at a stage that is neither starting nor playing
module _ (at : Stage) (t : ℕ) where
  ended_left : is_live at ≡ false → (left_in at true t ≡ 0) × (left_in at false t ≡ 1)
  ended_left live = step at live
    where
      step : (x : Stage) → is_live x ≡ false → (left_in x true t ≡ 0) × (left_in x false t ≡ 1)
      step Starting live = absurd cc
      step Playing live = absurd cc
      step Stopping live = (refl, refl)
      step (Aborting c) live = (refl, refl)

not_all_ended : (at : Stage) (ended : Bool) → is_live at ≡ false → is_last (phase_in at ended) ≡ false → ended ≡ false
not_all_ended Starting ended live going = absurd cc
not_all_ended Playing ended live going = absurd cc
not_all_ended Stopping true live going = absurd cc
not_all_ended Stopping false live going = refl
not_all_ended (Aborting c) true live going = absurd cc
not_all_ended (Aborting c) false live going = refl

answered_at_end : {M : Type 0} (at : Stage) (m : MatchValue M) (k : ℕ) → is_live at ≡ false → answered_in at m k ≡ is_there m.end_marks k
answered_at_end Starting m k live = absurd cc
answered_at_end Playing m k live = absurd cc
answered_at_end Stopping m k live = refl
answered_at_end (Aborting c) m k live = refl

-- ---- Filled places

set_here : {A : Type 0} (xs : List (Option A)) (r : ℕ) (x : A) → r < length xs → is_there (set xs r (Some x)) r ≡ true
set_here xs r x lt = ap is_some (at_role-set xs r (Some x) lt)

set_keeps : {A : Type 0} (xs : List (Option A)) (r k : ℕ) (x : A) → r < length xs → is_there xs k ≡ true → is_there (set xs r (Some x)) k ≡ true
set_keeps xs r k x lt is = step (same_or_other k r)
  where
    step : (k ≡ r) ⊎ (k ≢ r) → is_there (set xs r (Some x)) k ≡ true
    step (inl same) = subst (λ i. is_there (set xs r (Some x)) i ≡ true) (sym same) (set_here xs r x lt)
    step (inr other) = ap is_some (at_role-other xs r k (Some x) other) ∙ is

play_answered : (still there : Bool) → there ≡ true → (if still then there else true) ≡ true
play_answered true there is = is
play_answered false there is = refl

play_keeps : (still there there' : Bool) → (there ≡ true → there' ≡ true) → (if still then there else true) ≡ true → (if still then there' else true) ≡ true
play_keeps true there there' keeps is = keeps is
play_keeps false there there' keeps is = refl

-- ---- What an answer does in a round: fewer rounds are left, or the round stays open and the role has answered

record IsOpenWith {S M : Type 0} (g : Rules S M) (m n : MatchValue M) (r : ℕ) : Type 0 where
  left_is : left g n ≡ left g m
  round_is : round g n ≡ round g m
  goes_on : is_over g n ≡ false
  kept : (k : ℕ) → has_answered g m k ≡ true → has_answered g n k ≡ true
  here : has_answered g n r ≡ true

abbrev GoesOn : {S M : Type 0} → Rules S M → MatchValue M → MatchValue M → ℕ → Type 0
GoesOn g m n r = (left g n < left g m) ⊎ IsOpenWith g m n r

still_open : {S M : Type 0} (g : Rules S M) (m n : MatchValue M) (r : ℕ) (at : Stage) → stage g m ≡ at → stage g n ≡ at → n.turns ≡ m.turns
    → left_in at (all_ended g n) (length m.turns) ≡ left_in at (all_ended g m) (length m.turns)
    → round_in at (every_role g.roles (is_there n.start_marks)) (length m.turns) ≡ round_in at (every_role g.roles (is_there m.start_marks)) (length m.turns)
    → is_last (phase_in at (all_ended g n)) ≡ false
    → ((k : ℕ) → answered_in at m k ≡ true → answered_in at n k ≡ true) → answered_in at n r ≡ true → IsOpenWith g m n r
still_open g m n r at is is' turns lefts rounds going keeps answered =
    let left_same : left_in (stage g n) (all_ended g n) (length n.turns) ≡ left_in (stage g m) (all_ended g m) (length m.turns) = rw (is, is', turns) lefts in
    let round_same : round_in (stage g n) (every_role g.roles (is_there n.start_marks)) (length n.turns) ≡ round_in (stage g m) (every_role g.roles (is_there m.start_marks)) (length m.turns) = rw (is, is', turns) rounds in
    record {
      left_is = left_same;
      round_is = round_same;
      goes_on = subst (λ (x : Stage). is_last (phase_in x (all_ended g n)) ≡ false) (sym is') going;
      kept = λ k given. subst (λ (x : Stage). answered_in x n k ≡ true) (sym is') (keeps k (subst (λ (x : Stage). answered_in x m k ≡ true) is given));
      here = subst (λ (x : Stage). answered_in x n r ≡ true) (sym is') answered;
    }

after_settling : {S M : Type 0} (g : Rules S M) (n : MatchValue M) → n.abort_asked ≡ false → every_role g.roles (is_there n.start_marks) ≡ true → left g n ≤ (max_turns - length n.turns) + 1
after_settling g n asked started =
    subst (λ (x : Stage). left_in x (all_ended g n) (length n.turns) ≤ (max_turns - length n.turns) + 1) (sym (stage-settled g n asked started))
    (settled_left (settled g (length n.turns) (are_all_retired g.roles n) (state_after g n.turns)) (all_ended g n) (length n.turns) (settled-not_starting g (length n.turns) (are_all_retired g.roles n) (state_after g n.turns)))

started_less : (a l c : ℕ) → a ≤ (c - l) + 1 → a < c + 2
started_less a l c le = omega (arith, le)

recorded_less : (a l n c : ℕ) → a ≤ (c - n) + 1 → n ≡ l + 1 → l < c → a < (c - l) + 1
recorded_less a l n c le more few = omega (arith, le, more, few)

module _ {S M : Type 0} (g : Rules S M) (m : MatchValue M) (lawful : IsLawfulMatch g m) (r : ℕ) (lt : r < g.roles) where
  start_step : (mark : Mark) → stage g m ≡ Starting → GoesOn g m (with_start_mark m r mark) r
  start_step mark is = step (every_role g.roles (is_there (set m.start_marks r (Some mark)))) refl
    where
      within : r < length m.start_marks
      within = omega (arith, lt, lawful.one_start_mark)

      asked : m.abort_asked ≡ false
      asked = live-not_asked g m (ap is_live is)

      step : (all : Bool) → every_role g.roles (is_there (set m.start_marks r (Some mark))) ≡ all → GoesOn g m (with_start_mark m r mark) r
      step true all =
          let few = started_less (left g (with_start_mark m r mark)) (length m.turns) max_turns (after_settling g (with_start_mark m r mark) asked all) in
          inl (subst (λ (x : Stage). left g (with_start_mark m r mark) < left_in x (all_ended g m) (length m.turns)) (sym is) few)
      step false all =
          inr (still_open g m (with_start_mark m r mark) r Starting is (stage-starting g (with_start_mark m r mark) asked all) refl refl refl refl
          (λ k given. set_keeps m.start_marks r k mark within given) (set_here m.start_marks r mark within))

  end_step : (mark : Mark) (at : Stage) → stage g m ≡ at → is_live at ≡ false → is_over g m ≡ false → GoesOn g m (with_end_mark m r mark) r
  end_step mark at is ended going = step (all_ended g (with_end_mark m r mark)) refl
    where
      within : r < length m.end_marks
      within = omega (arith, lt, lawful.one_end_mark)

      is' : stage g (with_end_mark m r mark) ≡ at
      is' = stage-by g m (with_end_mark m r mark) refl refl refl refl ∙ is

      missing : all_ended g m ≡ false
      missing = not_all_ended at (all_ended g m) ended (subst (λ (x : Stage). is_last (phase_in x (all_ended g m)) ≡ false) is going)

      was : left g m ≡ 1
      was = ap (λ (x : Stage). left_in x (all_ended g m) (length m.turns)) is ∙ ap (λ b. left_in at b (length m.turns)) missing ∙ (ended_left at (length m.turns) ended).1

      step : (all : Bool) → all_ended g (with_end_mark m r mark) ≡ all → GoesOn g m (with_end_mark m r mark) r
      step true all =
          let none : left g (with_end_mark m r mark) ≡ 0 = ap (λ (x : Stage). left_in x (all_ended g (with_end_mark m r mark)) (length m.turns)) is' ∙ ap (λ b. left_in at b (length m.turns)) all ∙ (ended_left at (length m.turns) ended).0 in
          inl (omega (arith, none, was))
      step false all =
          let same : all_ended g (with_end_mark m r mark) ≡ all_ended g m = all ∙ sym missing in
          inr (still_open g m (with_end_mark m r mark) r at is is' refl (ap (λ b. left_in at b (length m.turns)) same) refl
          (ap (λ b. is_last (phase_in at b)) same ∙ subst (λ (x : Stage). is_last (phase_in x (all_ended g m)) ≡ false) is going)
          (λ k given. answered_at_end at (with_end_mark m r mark) k ended ∙ set_keeps m.end_marks r k mark within (sym (answered_at_end at m k ended) ∙ given))
          (answered_at_end at (with_end_mark m r mark) r ended ∙ set_here m.end_marks r mark within))

  play_step : (n : MatchValue M) (answer : Answer) → stage g m ≡ Playing → IsPlayed g m n r answer → GoesOn g m n r
  play_step n answer is played = step played.opened_or_recorded
    where
      within : r < length m.open_answers
      within = omega (arith, lt, lawful.one_open_answer)

      stays_open : GoesOn g m (record m { open_answers = set m.open_answers r (Some played.judged) }) r
      stays_open =
          inr (still_open g m (record m { open_answers = set m.open_answers r (Some played.judged) }) r Playing is
          (stage-by g m (record m { open_answers = set m.open_answers r (Some played.judged) }) refl refl refl refl ∙ is) refl refl refl refl
          (λ k given. play_keeps (still_answers m k) (is_there m.open_answers k) (is_there (set m.open_answers r (Some played.judged)) k) (set_keeps m.open_answers r k played.judged within) given)
          (play_answered (still_answers m r) (is_there (set m.open_answers r (Some played.judged)) r) (set_here m.open_answers r played.judged within)))

      recorded : (t : Turn M) → GoesOn g m (record m { turns = m.turns ++ t ∷ []; open_answers = blank g.roles }) r
      recorded t =
          let in_play = (playing_means g m).0 is in
          let few = after_settling g (record m { turns = m.turns ++ t ∷ []; open_answers = blank g.roles }) in_play.not_asked in_play.started in
          let less = recorded_less (left g (record m { turns = m.turns ++ t ∷ []; open_answers = blank g.roles })) (length m.turns) (length (m.turns ++ t ∷ [])) max_turns few (length-append m.turns (t ∷ [])) in_play.few in
          inl (subst (λ (x : Stage). left g (record m { turns = m.turns ++ t ∷ []; open_answers = blank g.roles }) < left_in x (all_ended g m) (length m.turns)) (sym is) less)

      step : (n ≡ record m { open_answers = set m.open_answers r (Some played.judged) })
          ⊎ ((n ≡ record m { turns = m.turns ++ turn_of (parts g (record m { open_answers = set m.open_answers r (Some played.judged) })) ∷ []; open_answers = blank g.roles })
          × ((k : ℕ) → k < g.roles → HasPart g (record m { open_answers = set m.open_answers r (Some played.judged) }) k)) → GoesOn g m n r
      step (inl is_open) = subst (λ (x : MatchValue M). GoesOn g m x r) (sym is_open) stays_open
      step (inr is_recorded) = subst (λ (x : MatchValue M). GoesOn g m x r) (sym is_recorded.0) (recorded _)

module _ {S M : Type 0} (g : Rules S M) (laws : IsLawful g) (folded : ReadingsAreFolded) where
  taken_step : (m : MatchValue M) (r n : ℕ) (answer : Answer) → IsLawfulMatch g m → refusal g m r n ≡ None → GoesOn g m (after_answer g m r n answer) r
  taken_step m r n answer lawful none = step (stage g m) refl
    where
      facts : (r < g.roles) × (n ≡ round g m) × (is_over g m ≡ false) × (has_answered g m r ≡ false)
      facts = taken g m r n none

      now : (at : Stage) → stage g m ≡ at → after_answer g m r n answer ≡ with_answer_in at g m r answer
      now at is = ap (λ o. if is_none o then with_answer g m r answer else m) none ∙ ap (λ (x : Stage). with_answer_in x g m r answer) is

      step : (at : Stage) → stage g m ≡ at → GoesOn g m (after_answer g m r n answer) r
      step Starting is = subst (λ (x : MatchValue M). GoesOn g m x r) (sym (now Starting is)) (start_step g m lawful r facts.0 (mark_of answer) is)
      step Playing is = play_step g m lawful r facts.0 (after_answer g m r n answer) answer is (answers_in_play g laws folded m r n answer lawful is none)
      step Stopping is = subst (λ (x : MatchValue M). GoesOn g m x r) (sym (now Stopping is)) (end_step g m lawful r facts.0 (mark_of answer) Stopping is refl facts.2)
      step (Aborting c) is = subst (λ (x : MatchValue M). GoesOn g m x r) (sym (now (Aborting c) is)) (end_step g m lawful r facts.0 (mark_of answer) (Aborting c) is refl facts.2)

  -- a match that does not change, and whose role has answered
  stays_open : (m : MatchValue M) (r : ℕ) → is_over g m ≡ false → has_answered g m r ≡ true → GoesOn g m m r
  stays_open m r going has = inr (record { left_is = refl; round_is = refl; goes_on = going; kept = λ k given. given; here = has })

  round_step : (m : MatchValue M) (r n : ℕ) (answer : Answer) → IsLawfulMatch g m → r < g.roles → n ≡ round g m → is_over g m ≡ false → GoesOn g m (after_answer g m r n answer) r
  round_step m r n answer lawful lt same going = step (has_answered g m r) refl
    where
      refused_if : refusal g m r n ≡ (if has_answered g m r then Some Twice else None)
      refused_if = rw (less_is r g.roles lt, going, same_is n (round g m) same) refl

      step : (b : Bool) → has_answered g m r ≡ b → GoesOn g m (after_answer g m r n answer) r
      step false is = taken_step m r n answer lawful (refused_if ∙ ap (λ b. if b then Some Twice else None) is)
      step true is =
          let twice : refusal g m r n ≡ Some Twice = refused_if ∙ ap (λ b. if b then Some Twice else None) is in
          let now : after_answer g m r n answer ≡ m = ap (λ o. if is_none o then with_answer g m r answer else m) twice in
          subst (λ (x : MatchValue M). GoesOn g m x r) (sym now) (stays_open m r going is)

  never_more : (m : MatchValue M) (r n : ℕ) (answer : Answer) → IsLawfulMatch g m → left g (after_answer g m r n answer) ≤ left g m
  never_more m r n answer lawful = step (refusal g m r n) refl
    where
      at_most : GoesOn g m (after_answer g m r n answer) r → left g (after_answer g m r n answer) ≤ left g m
      at_most (inl less) = omega (arith, less)
      at_most (inr is_open) = let same = is_open.left_is in omega (arith, same)

      step : (o : Option AnswerRefusal) → refusal g m r n ≡ o → left g (after_answer g m r n answer) ≤ left g m
      step None is = at_most (taken_step m r n answer lawful is)
      step (Some f) is =
          let now : after_answer g m r n answer ≡ m = ap (λ o. if is_none o then with_answer g m r answer else m) is in
          let same : left g (after_answer g m r n answer) ≡ left g m = ap (λ (x : MatchValue M). left g x) now in
          omega (arith, same)

  some_missing : (m : MatchValue M) → IsLawfulMatch g m → is_over g m ≡ false → every_role g.roles (has_answered g m) ≡ false
  some_missing m lawful going = step (stage g m) refl
    where
      going_at : (at : Stage) → stage g m ≡ at → is_last (phase_in at (all_ended g m)) ≡ false
      going_at at is = subst (λ (x : Stage). is_last (phase_in x (all_ended g m)) ≡ false) is going

      step : (at : Stage) → stage g m ≡ at → every_role g.roles (has_answered g m) ≡ false
      step Starting is = subst (λ (x : Stage). every_role g.roles (answered_in x m) ≡ false) (sym is) (starting-missing g m is)
      step Playing is = lawful.round_is_open (rw is refl)
      step Stopping is = subst (λ (x : Stage). every_role g.roles (answered_in x m) ≡ false) (sym is) (not_all_ended Stopping (all_ended g m) refl (going_at Stopping is))
      step (Aborting c) is = subst (λ (x : Stage). every_role g.roles (answered_in x m) ≡ false) (sym is) (not_all_ended (Aborting c) (all_ended g m) refl (going_at (Aborting c) is))

  -- the match after the role has answered the message that was due
  due_step : (m n : MatchValue M) (r : ℕ) → IsLawfulMatch g m → r < g.roles → is_over g m ≡ false → IsAfterDue g m r (due g m r) n → GoesOn g m n r
  due_step m n r lawful lt going is = step (has_answered g m r) refl
    where
      in_round : (b : Bool) → has_answered g m r ≡ b → IsAfterDue g m r (if b then Hold (round g m) else Owe (round g m) (owed_in (stage g m) (last_move_texts g m.turns))) n
      in_round b has =
          let at_round = ap (λ o. if o then Over else (if has_answered g m r then Hold (round g m) else Owe (round g m) (owed_in (stage g m) (last_move_texts g m.turns)))) going in
          let at_role = ap (λ h. if h then Hold (round g m) else Owe (round g m) (owed_in (stage g m) (last_move_texts g m.turns))) has in
          subst (λ (d : Due). IsAfterDue g m r d n) (at_round ∙ at_role) is

      step : (b : Bool) → has_answered g m r ≡ b → GoesOn g m n r
      step true has = subst (λ (x : MatchValue M). GoesOn g m x r) (sym (in_round true has)) (stays_open m r going has)
      step false has = let said = in_round false has in subst (λ (x : MatchValue M). GoesOn g m x r) (sym said.1) (round_step m r (round g m) said.0 lawful lt refl going)

  -- a property of the match that also holds after any answer of the role holds after the role has answered the message that was due
  after_due : (P : MatchValue M → Type 0) (m n : MatchValue M) (r : ℕ) → P m → ((round : ℕ) (answer : Answer) → P (after_answer g m r round answer)) → (d : Due) → IsAfterDue g m r d n → P n
  after_due P m n r here answered (Owe round owed) is = subst P (sym is.1) (answered round is.0)
  after_due P m n r here answered (Hold round) is = subst P (sym is) here
  after_due P m n r here answered Over is = subst P (sym is) here

  -- a lawful match with at most this many rounds left
  record HasNoMoreLeft (rounds : ℕ) (n : MatchValue M) : Type 0 where
    lawful : IsLawfulMatch g n
    no_more : left g n ≤ rounds

  answer_keeps : (m : MatchValue M) → IsLawfulMatch g m → (r n : ℕ) (answer : Answer) → HasNoMoreLeft (left g m) (after_answer g m r n answer)
  answer_keeps m lawful r n answer = record { lawful = answers_keep_lawful g laws folded m r n answer lawful; no_more = never_more m r n answer lawful }

  step_keeps : (m after : MatchValue M) (r n : ℕ) → IsLawfulMatch g m → IsAfterAnswer g n m r after ⊎ IsAfterDue g m r (due g m r) after → HasNoMoreLeft (left g m) after
  step_keeps m after r n lawful (inl is) = subst (λ (x : MatchValue M). HasNoMoreLeft (left g m) x) (sym is.1) (answer_keeps m lawful r n is.0)
  step_keeps m after r n lawful (inr is) =
      after_due (λ (x : MatchValue M). HasNoMoreLeft (left g m) x) m after r (record { lawful = lawful; no_more = omega arith }) (answer_keeps m lawful r) (due g m r) is

  -- ---- One round

  module _ (m : MatchValue M) (lawful : IsLawfulMatch g m) (n : ℕ) where
    round_keeps : (k : ℕ) (after : MatchValue M) → HaveAnswered g n m k after → HasNoMoreLeft (left g m) after
    round_keeps zero after is = subst (λ (x : MatchValue M). HasNoMoreLeft (left g m) x) (sym is) (record { lawful = lawful; no_more = omega arith })
    round_keeps (suc k) after is =
        let before = round_keeps k is.0 is.1 in
        let now = step_keeps is.0 after k n before.lawful is.2 in
        record { lawful = now.lawful; no_more = omega arith }

    record AreOpenWith (k : ℕ) (after : MatchValue M) : Type 0 where
      left_is : left g after ≡ left g m
      round_is : n ≡ round g after
      goes_on : is_over g after ≡ false
      all : (j : ℕ) → j < k → has_answered g after j ≡ true

    one_more : (k : ℕ) (before after : MatchValue M) → AreOpenWith k before → IsOpenWith g before after k → AreOpenWith (suc k) after
    one_more k before after were is = record {
      left_is = is.left_is ∙ were.left_is;
      round_is = were.round_is ∙ sym is.round_is;
      goes_on = is.goes_on;
      all = λ j lt. step j (below_or_at j k lt);
    }
      where
        step : (j : ℕ) → (j ≡ k) ⊎ (j < k) → has_answered g after j ≡ true
        step j (inl same) = subst (λ i. has_answered g after i ≡ true) (sym same) is.here
        step j (inr below) = is.kept j (were.all j below)

    role_step : (k : ℕ) (before after : MatchValue M) → k < g.roles → IsLawfulMatch g before → AreOpenWith k before → IsAfterAnswer g n before k after ⊎ IsAfterDue g before k (due g before k) after → GoesOn g before after k
    role_step k before after lt lawful were (inl is) = subst (λ (x : MatchValue M). GoesOn g before x k) (sym is.1) (round_step before k n is.0 lawful lt were.round_is were.goes_on)
    role_step k before after lt lawful were (inr is) = due_step before after k lawful lt were.goes_on is

    roles_step : n ≡ round g m → is_over g m ≡ false → (k : ℕ) (after : MatchValue M) → k ≤ g.roles → HaveAnswered g n m k after → (left g after < left g m) ⊎ AreOpenWith k after
    roles_step same going zero after le is = subst (λ (x : MatchValue M). (left g x < left g m) ⊎ AreOpenWith zero x) (sym is) (inr (record { left_is = refl; round_is = same; goes_on = going; all = λ j lt. absurd (omega (arith, lt)) }))
    roles_step same going (suc k) after le is = step (roles_step same going k before (omega (arith, le)) is.1)
      where
        before : MatchValue M
        before = is.0

        lawful_before : IsLawfulMatch g before
        lawful_before = (round_keeps k before is.1).lawful

        step : (left g before < left g m) ⊎ AreOpenWith k before → (left g after < left g m) ⊎ AreOpenWith (suc k) after
        step (inl less) = let now = (step_keeps before after k n lawful_before is.2).no_more in inl (omega (arith, less, now))
        step (inr were) = turn (role_step k before after (omega (arith, le)) lawful_before were is.2)
          where
            turn : GoesOn g before after k → (left g after < left g m) ⊎ AreOpenWith (suc k) after
            turn (inl less) = let was = were.left_is in inl (omega (arith, less, was))
            turn (inr is) = inr (one_more k before after were is)

    round_less : n ≡ round g m → is_over g m ≡ false → (after : MatchValue M) → HaveAnswered g n m g.roles after → left g after < left g m
    round_less same going after is = step (roles_step same going g.roles after (omega arith) is)
      where
        step : (left g after < left g m) ⊎ AreOpenWith g.roles after → left g after < left g m
        step (inl less) = less
        step (inr were) =
            let all = every_role-all g.roles (has_answered g after) were.all in
            let some = some_missing after (round_keeps g.roles after is).lawful were.goes_on in
            let w : true ≡ false = sym all ∙ some in
            absurd cc

  -- ---- All rounds

  module _ (m after : MatchValue M) (lawful : IsLawfulMatch g m) (is : HaveAnswered g (round g m) m g.roles after) where
    now : HasNoMoreLeft (left g m) after
    now = round_keeps m lawful (round g m) g.roles after is

    one_less : (k : ℕ) → left g m ≤ (max_turns + 2) - k → left g after ≤ (max_turns + 2) - suc k
    one_less k most = step (is_over g m) refl
      where
        step : (over : Bool) → is_over g m ≡ over → left g after ≤ (max_turns + 2) - suc k
        step true over =
            let none : left g m ≡ 0 = over_left (stage g m) (all_ended g m) (length m.turns) over in
            let no_more = now.no_more in
            omega (arith, none, no_more)
        step false going =
            let less = round_less m lawful (round g m) refl going after is in
            omega (arith, most, less)

  rounds_left : (m : MatchValue M) → IsLawfulMatch g m → (k : ℕ) (after : MatchValue M) → AreRounds g m k after → HasNoMoreLeft ((max_turns + 2) - k) after
  rounds_left m lawful zero after is =
      let most : left g m ≤ max_turns + 2 = most_left (stage g m) (all_ended g m) (length m.turns) in
      subst (λ (x : MatchValue M). HasNoMoreLeft ((max_turns + 2) - zero) x) (sym is) (record { lawful = lawful; no_more = omega (arith, most) })
  rounds_left m lawful (suc k) after is =
      let before = rounds_left m lawful k is.0 is.1 in
      record { lawful = (now is.0 after before.lawful is.2).lawful; no_more = one_less is.0 after before.lawful is.2 k before.no_more }

pub rounds_end : {S M : Type 0} (g : Rules S M) → IsLawful g → ReadingsAreFolded → RoundsEnd g
rounds_end g laws folded m after rounds lawful are enough =
    let few = (rounds_left g laws folded m lawful rounds after are).no_more in
    let none : left g after ≡ 0 = omega (arith, few, enough) in
    none_left (stage g after) (all_ended g after) (length after.turns) none
