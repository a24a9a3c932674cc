-- A record whose replay has no error is the record of a lawful match. A record whose replay has an error is not.
use Rattle.std.proofs.Common.{◌≡◌, ◌≢◌, ℕ, zero, suc, ◌<◌, ◌≤◌, Bool, false, Some, None, List, [], ◌∷◌, length, take, map, refl, sym, ap, ◌∙◌, subst, arith, inl, inr, Contains}
use Rattle.std.proofs.Math.Nat.{eq-or-lt_of_le}
use Rattle.std.specs.Prelude.{slice_index_or, slice_get, option_map, ◌==◌}
use Rattle.std.proofs.lemmas.List.{length-map, length-replicate, take_all, get_or-map}
use Rattle.std.proofs.lemmas.Bool.Decides.{nat_tests}
use Rattle.std.proofs.lemmas.Option.{slice_get-map}
use Rattle.game_core.specs.Play.{Rules, IsJoint, IsLawful}
use Rattle.match_book.specs.Roles.{every_role, lowest_role, at_role, blank}
use Rattle.match_book.specs.Judgement.{IsPart, NamesNone}
use Rattle.match_book.specs.Retirement.{retired_by}
use Rattle.match_book.specs.MatchValue.{MatchValue, state_after}
use Rattle.match_book.specs.Phase.{stage, phase_in, has_no_move, max_turns}
use Rattle.match_book.specs.Lawful.{IsLawfulTurn, AreLawful, IsLawfulMatch}
use Rattle.match_book.specs.Laws.{BegunRoundsAreOpen, StoppingMeans, TurnsHaveMoves, TurnsLeadToStates}
use Rattle.match_book.specs.declared.turn.Turn.{Turn}
use Rattle.record_reading.specs.LawfulRecord.{AreLawfulParts}
use Rattle.record_reading.specs.RecordParts.{prefixes, parts_of, parts_in}
use Rattle.record_reading.specs.RecordTree.{HasShape}
use Rattle.record_check.specs.Replaying.{IsWrongError, IsWrongRetired, ShowsState, LeadsTo, ComesTo, IsReplayed, AreGoalsIn, IsRightEnd, IsFirstFault, match_of, retired_in, turn_at, text_at}
use Rattle.record_check.specs.Internal.ReplaySteps.{IsRightJoint, has_ended}
use Rattle.record_reading.specs.declared.record_parts.Key.TheVariants.{Players, Roles, StartMarks, EndMarks, Moves}
use Rattle.record_reading.specs.declared.record_parts.RecordParts.{RecordParts}
use Rattle.record_reading.specs.declared.verify_fault.VerifyFault.{VerifyFault}
use Rattle.record_reading.specs.declared.verify_fault.VerifyFault.TheVariants.{NotJson, BadShape, Illegal, NotFirst, WrongRetired, WrongState, WrongGoals, WrongEnd, Memory}
use Rattle.record_check.proofs.RecordedMoves.{element-at, part-not_wrong, part-not_unfit}
use Rattle.record_check.proofs.RecordEnds.{goals-shown, lawful-right_end, lawful-goals}
use Rattle.record_check.proofs.Replays.{leads-within, leads-front}

-- ---- Prefixes

length_prefixes : {A : Type 0} (xs : List A) → length (prefixes xs) ≡ suc (length xs)
length_prefixes [] = refl
length_prefixes (x ∷ xs) = ap suc (length-map (prefixes xs) (λ front. x ∷ front) ∙ length_prefixes xs)

prefixes_get : {A : Type 0} (xs : List A) (k : ℕ) → k ≤ length xs → slice_get (prefixes xs) k ≡ Some (take k xs)
prefixes_get [] zero le = refl
prefixes_get [] (suc k) le = absurd (omega arith)
prefixes_get (x ∷ xs) zero le = refl
prefixes_get (x ∷ xs) (suc k) le = slice_get-map (λ front. x ∷ front) (prefixes xs) k ∙ ap (option_map (λ front. x ∷ front)) (prefixes_get xs k (omega arith))

pub front-get : {A B : Type 0} (f : List A → B) (xs : List A) (k : ℕ) → k ≤ length xs → slice_get (map f (prefixes xs)) k ≡ Some (f (take k xs))
front-get f xs k le = slice_get-map f (prefixes xs) k ∙ ap (option_map f) (prefixes_get xs k le)

same-gets : {A : Type 0} (xs ys : List A) → length xs ≡ length ys → ((k : ℕ) → k < length xs → slice_get xs k ≡ slice_get ys k) → xs ≡ ys
same-gets [] [] many at = refl
same-gets [] (y ∷ ys) many at = absurd (omega arith)
same-gets (x ∷ xs) [] many at = absurd (omega arith)
same-gets (x ∷ xs) (y ∷ ys) many at =
    let first : Some x ≡ Some y = at 0 (omega arith) in
    let head : x ≡ y = cc in
    let tail = same-gets xs ys (omega arith) (λ k lt. at (suc k) (omega arith)) in
    cc

-- ---- A record without an error

none-blank : {A : Type 0} (n r : ℕ) (x : A) → at_role (blank n) r ≡ Some x → ⊥
none-blank zero r x is = cc
none-blank (suc n) zero x is = cc
none-blank (suc n) (suc r) x is = none-blank n r x is

module _ {S M : Type 0} (g : Rules S M) (begun : BegunRoundsAreOpen g) (p : RecordParts) (shape : HasShape g p) (s : S) (played : IsReplayed g p s) (goals : AreGoalsIn g p.phase s p.goals) (right : IsRightEnd g p played.leads.turns) where
  made : MatchValue M
  made = match_of g p played.leads.turns

  few : length played.leads.turns ≡ length p.moves
  few = played.leads.many

  made-lawful : IsLawfulMatch g (match_of g p played.leads.turns)
  made-lawful =
      let n = match_of g p played.leads.turns in
      record {
        one_player = (shape.keys Players).0;
        one_start_mark = shape.keys StartMarks;
        one_open_answer = length-replicate g.roles None;
        one_end_mark = shape.keys EndMarks;
        turns = played.leads.lawful;
        few_turns = subst (λ k. k ≤ max_turns) (sym few) (shape.keys Moves).1;
        turns_after_start = right.turns_after_start;
        judged = λ r j lt e. absurd (none-blank g.roles r j e);
        answers_in_play = λ _. refl;
        round_is_open = λ e. begun n e refl;
        ends_at_end = right.ends_at_end;
        asked_when_live = right.asked_when_live;
      }

  states-same : map (λ front. g.state_text (state_after g front)) (prefixes played.leads.turns) ≡ p.states
  states-same =
      let f : List (Turn M) → List (List ℕ) = λ front. g.state_text (state_after g front) in
      let turns = played.leads.turns in
      let wide : length (map f (prefixes turns)) ≡ suc (length p.moves) = length-map (prefixes turns) f ∙ length_prefixes turns ∙ ap suc few in
      same-gets (map f (prefixes turns)) p.states (wide ∙ sym shape.one_state_more) (λ k lt.
      let le : k ≤ length turns = omega (arith, wide, few) in
      front-get f turns k le ∙ elim (eq-or-lt_of_le {n = k} {m = length p.moves} (omega (arith, wide))) [
        | inl last ↦
            subst (λ n. Some (f (take n turns)) ≡ slice_get p.states n) (sym last)
            (ap (λ ts. Some (f ts)) (take_all (length p.moves) turns (omega (arith, few))) ∙ ap (λ (x : S). Some (g.state_text x)) (sym played.leads.state) ∙ sym played.shown)
        | inr below ↦ sym (played.leads.states k below)
      ])

  goals-same : (parts_of g (match_of g p played.leads.turns)).goals ≡ p.goals
  goals-same =
      let n = match_of g p played.leads.turns in
      goals-shown g (state_after g played.leads.turns) (stage g n) (has_ended g.roles p) p.goals
      (subst (λ (x : S). AreGoalsIn g (phase_in (stage g n) (has_ended g.roles p)) x p.goals) played.leads.state (subst (λ ph. AreGoalsIn g ph s p.goals) (sym right.phase_is) goals))

  made-shows : parts_in g p.version (match_of g p played.leads.turns) ≡ p
  made-shows = λ i. record {
    cause = right.cause_is i;
    end_marks = p.end_marks;
    errors = (played.leads.errors ∙ take_all (length p.moves) p.errors (omega (arith, shape.as_many_errors))) i;
    goals = goals-same i;
    id = p.id;
    moves = (played.leads.moves ∙ take_all (length p.moves) p.moves (omega arith)) i;
    phase = right.phase_is i;
    play = p.play;
    players = p.players;
    roles = sym (shape.keys Roles) i;
    start = p.start;
    start_marks = p.start_marks;
    states = states-same i;
    strikes = p.strikes;
    version = p.version;
  }

  -- a record without an error is that of a lawful match
  pub record-lawful : AreLawfulParts g p
  record-lawful = (match_of g p played.leads.turns, made-lawful, made-shows)

-- ---- The record of a lawful match has no error

none-lowest : (n : ℕ) (test : ℕ → Bool) → ((k : ℕ) → k < n → test k ≡ false) → lowest_role n test ≡ None
none-lowest zero test none = refl
none-lowest (suc n) test none = rw (none-lowest n test (λ k lt. none k (omega arith)), none n (omega arith)) refl

some-move : {M : Type 0} (moves : List M) (m : M) → Contains moves m → (length moves == 0) ≡ false
some-move [] m among = absurd (omega (arith, among.1))
some-move (x ∷ xs) m among = longer (length xs)
  where
    longer : (n : ℕ) → (suc n == 0) ≡ false
    longer n = grind (arith, nat_tests)

module _ {S M : Type 0} (g : Rules S M) (laws : IsLawful g) (states : TurnsLeadToStates g) (of_game : TurnsHaveMoves g) (stops : StoppingMeans g) (p : RecordParts) (m : MatchValue M) (lawful : IsLawfulMatch g m) (shows : parts_in g p.version m ≡ p) where
  turns-lawful : AreLawful g p.strikes m.turns
  turns-lawful = subst (λ (k : ℕ). AreLawful g k m.turns) (ap (λ (q : RecordParts). q.strikes) shows) lawful.turns

  moves-same : map (λ u. map g.move_text u.moves) m.turns ≡ p.moves
  moves-same = ap (λ (q : RecordParts). q.moves) shows

  errors-same : map (λ u. u.errors) m.turns ≡ p.errors
  errors-same = ap (λ (q : RecordParts). q.errors) shows

  as-many : length m.turns ≡ length p.moves
  as-many = sym (length-map m.turns (λ (u : Turn M). map g.move_text u.moves)) ∙ ap length moves-same

  front : (t : ℕ) (s : S) (leads : LeadsTo g p t s) → leads.turns ≡ take t m.turns
  front t s leads = leads-front g laws of_game p t s leads m.turns turns-lawful moves-same errors-same

  state-is : (t : ℕ) (s : S) → LeadsTo g p t s → s ≡ state_after g (take t m.turns)
  state-is t s leads = leads.state ∙ ap (state_after g) (front t s leads)

  is-state : (t : ℕ) (s : S) → LeadsTo g p t s → g.IsState s
  is-state t s leads = subst (λ (x : S). g.IsState x) (sym leads.state) (states p.strikes leads.turns leads.lawful)

  shown : (t : ℕ) (s : S) → LeadsTo g p t s → ShowsState g p t s
  shown t s leads =
      let le : t ≤ length m.turns = omega (arith, leads-within g p t s leads, as-many) in
      ap (λ (q : RecordParts). slice_get q.states t) (sym shows) ∙ front-get (λ (ts : List (Turn M)). g.state_text (state_after g ts)) m.turns t le ∙ ap (λ (x : S). Some (g.state_text x)) (sym (state-is t s leads))

  next-turn : (t : ℕ) (s : S) (comes : ComesTo g p t s) → (u : Turn M) × IsRightJoint g (retired_in p comes) s (turn_at p.moves t) (turn_at p.errors t) u.moves
  next-turn t s comes =
      let lt : t < length m.turns = omega (arith, comes.follows, as-many) in
      let u = element-at m.turns t lt in
      let at = state-is t s comes.leads in
      let front_is = front t s comes.leads in
      let turn : IsLawfulTurn g p.strikes (take t m.turns) u.0 = subst (λ (x : Turn M). IsLawfulTurn g p.strikes (take t m.turns) x) u.1 (turns-lawful t u.0 lt) in
      let joint : IsJoint g s u.0.moves = subst (λ (x : S). IsJoint g x u.0.moves) (sym at) turn.joint in
      let texts : map g.move_text u.0.moves ≡ turn_at p.moves t =
      ap (λ (x : Turn M). map g.move_text x.moves) (sym u.1) ∙ sym (get_or-map (λ (x : Turn M). map g.move_text x.moves) m.turns t u.0 [] lt) ∙ ap (λ ts. turn_at ts t) moves-same in
      let errors : u.0.errors ≡ turn_at p.errors t =
      ap (λ (x : Turn M). x.errors) (sym u.1) ∙ sym (get_or-map (λ (x : Turn M). x.errors) m.turns t u.0 [] lt) ∙ ap (λ ts. turn_at ts t) errors-same in
      let wide = joint.width in (
        u.0,
        record {
          goes_on = (
            ap g.terminal at ∙ turn.goes_on,
            none-lowest g.roles (has_no_move g s) (λ r below.
                let inside : r < length u.0.moves = omega (arith, wide) in
                let d = element-at u.0.moves r inside in
                some-move (g.legal s r) (slice_index_or u.0.moves r d.0) (joint.legal r d.0 below)),
            subst (λ (ts : List (Turn M)). every_role g.roles (retired_by p.strikes ts) ≡ false) (sym front_is) turn.some_answer,
          );
          joint = joint;
          texts = texts;
          parts = λ r d below.
              subst (λ (ts : List (Turn M)). IsPart g (retired_by p.strikes ts r) (g.legal s r) (slice_index_or u.0.moves r d) (text_at (turn_at p.errors t) r)) (sym front_is)
              (subst (λ (es : List (List ℕ)). IsPart g (retired_by p.strikes (take t m.turns) r) (g.legal s r) (slice_index_or u.0.moves r d) (text_at es r)) errors
              (subst (λ (x : S). IsPart g (retired_by p.strikes (take t m.turns) r) (g.legal x r) (slice_index_or u.0.moves r d) (text_at u.0.errors r)) (sym at) (turn.judged r d below)));
        },
      )

  no-illegal : (t : ℕ) (s : S) → ComesTo g p t s → (r : ℕ) → r < g.roles → ¬ (NamesNone g (g.legal s r) (text_at (turn_at p.moves t) r))
  no-illegal t s comes r within none =
      let u = next-turn t s comes in
      let right = u.1 in
      let wide = right.joint.width in
      let inside : r < length u.0.moves = omega (arith, wide) in
      let d = element-at u.0.moves r inside in
      let among = right.joint.legal r d.0 within in
      let text : g.move_text d.0 ≡ text_at (turn_at p.moves t) r = ap g.move_text (sym d.1) ∙ sym (get_or-map g.move_text u.0.moves r d.0 [] inside) ∙ ap (λ ts. text_at ts r) right.texts in
      none among.0 d.0 among.1 (ap g.move_text (read (g.legal s r) among.0 d.0 (slice_index_or u.0.moves r d.0) among.1 among.2 ∙ d.1) ∙ text)
    where
      read : (ms : List M) (k : ℕ) (d t : M) → k < length ms → slice_index_or ms k t ≡ t → slice_index_or ms k d ≡ t
      read [] k d t lt is = absurd (omega arith)
      read (x ∷ xs) zero d t lt is = is
      read (x ∷ xs) (suc k) d t lt is = read xs k d t (omega arith) is

  next-part : (t : ℕ) (s : S) (comes : ComesTo g p t s) (r : ℕ) → r < g.roles → (m : M) × (g.move_text m ≡ text_at (turn_at p.moves t) r) × IsPart g (retired_in p comes r) (g.legal s r) m (text_at (turn_at p.errors t) r)
  next-part t s comes r within =
      let u = next-turn t s comes in
      let right = u.1 in
      let wide = right.joint.width in
      let inside : r < length u.0.moves = omega (arith, wide) in
      let d = element-at u.0.moves r inside in
      let text : g.move_text d.0 ≡ text_at (turn_at p.moves t) r = ap g.move_text (sym d.1) ∙ sym (get_or-map g.move_text u.0.moves r d.0 [] inside) ∙ ap (λ ts. text_at ts r) right.texts in
      (d.0, text, subst (λ (x : M). IsPart g (retired_in p comes r) (g.legal s r) x (text_at (turn_at p.errors t) r)) d.1 (right.parts r d.0 within))

  no-wrong_error : (t : ℕ) (s : S) → ComesTo g p t s → (r : ℕ) → r < g.roles → ¬ (IsWrongError g (g.legal s r) (text_at (turn_at p.moves t) r) (text_at (turn_at p.errors t) r))
  no-wrong_error t s comes r within wrong =
      let move = next-part t s comes r within in
      part-not_wrong g laws s r (retired_in p comes r) move.0 (text_at (turn_at p.moves t) r) (text_at (turn_at p.errors t) r) (is-state t s comes.leads) within move.1 move.2 wrong

  no-wrong_retired : (t : ℕ) (s : S) (comes : ComesTo g p t s) (r : ℕ) → r < g.roles → ¬ (IsWrongRetired g (retired_in p comes r) (g.legal s r) (text_at (turn_at p.moves t) r) (text_at (turn_at p.errors t) r))
  no-wrong_retired t s comes r within wrong =
      let move = next-part t s comes r within in
      part-not_unfit g (retired_in p comes r) (g.legal s r) move.0 (text_at (turn_at p.moves t) r) (text_at (turn_at p.errors t) r) move.2 wrong

  all-turns : (s : S) (leads : LeadsTo g p (length p.moves) s) → leads.turns ≡ m.turns
  all-turns s leads = front (length p.moves) s leads ∙ take_all (length p.moves) m.turns (omega (arith, as-many))

  no-fault : (f : VerifyFault) → f ≢ Memory → IsFirstFault g p f → ⊥
  no-fault NotJson other fault = fault
  no-fault (BadShape key) other fault = fault
  no-fault (WrongState t) other fault = fault.2 (shown t fault.0 fault.1)
  no-fault (Illegal t r) other fault = no-illegal t fault.0 fault.1 r fault.2.within fault.3
  no-fault (NotFirst t r) other fault = no-wrong_error t fault.0 fault.1 r fault.2.within fault.3
  no-fault (WrongRetired t r) other fault = no-wrong_retired t fault.0 fault.1 r fault.2.within fault.3
  no-fault WrongGoals other fault = fault.2 (lawful-goals g m lawful p shows stops fault.0 (fault.1.leads.state ∙ ap (state_after g) (all-turns fault.0 fault.1.leads)))
  no-fault WrongEnd other (inl early) = early.3 (next-turn early.0 early.1 early.2).1.goes_on
  no-fault WrongEnd other (inr late) = late.3 (subst (λ (ts : List (Turn M)). IsRightEnd g p ts) (sym (all-turns late.0 late.1.leads)) (lawful-right_end g m lawful p shows))
  no-fault Memory other fault = other refl

pub fault-not_lawful : {S M : Type 0} (g : Rules S M) → IsLawful g → TurnsLeadToStates g → TurnsHaveMoves g → StoppingMeans g → (p : RecordParts) (f : VerifyFault) → IsFirstFault g p f → f ≢ Memory → ¬ (AreLawfulParts g p)
fault-not_lawful g laws states of_game stops p f fault other record' = no-fault g laws states of_game stops p record'.0 record'.1 record'.2 f other fault
