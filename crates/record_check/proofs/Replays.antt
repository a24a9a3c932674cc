-- The turns that lead to a state of a record: no turns, one more turn, and a proof that the record determines the turns.
use Rattle.std.proofs.Common.{◌≡◌, ℕ, zero, suc, ◌+◌, ◌<◌, ◌≤◌, min, Bool, false, Some, List, [], ◌∷◌, ◌++◌, length, take, map, refl, sym, ap, ◌∙◌, subst, arith, inl, inr}
use Rattle.std.proofs.Math.Nat.{eq-or-lt_of_le}
use Rattle.std.specs.Prelude.{All, replicate, slice_index_or, slice_get, ◌==◌}
use Rattle.std.proofs.lemmas.List.{length_push, length-map, length-take, map_push, take_more, take-take, take-map, take_at, take-append-le, get_or-take, get_or-map, same_lists}
use Rattle.std.proofs.lemmas.List.Elements.{All-head, All-tail}
use Rattle.std.proofs.lemmas.Option.{slice_get_within, get_or_from_slice_get}
use Rattle.game_core.specs.Play.{Rules, IsJoint, IsLawful}
use Rattle.match_book.specs.Roles.{every_role}
use Rattle.match_book.specs.RoleStrikes.{after_turn, is_retired_in, AreStrikes, unstruck}
use Rattle.match_book.specs.Judgement.{IsPart}
use Rattle.match_book.specs.Retirement.{retired_by}
use Rattle.match_book.specs.declared.retirement.RoleStrikes.{RoleStrikes}
use Rattle.match_book.specs.MatchValue.{is_error, state_after}
use Rattle.match_book.specs.Phase.{max_turns}
use Rattle.match_book.specs.Lawful.{IsLawfulTurn, AreLawful}
use Rattle.match_book.specs.Laws.{FewStrikes, OneMoreTurn, StrikesBegin, StrikesOfOneMore, TurnsHaveMoves}
use Rattle.match_book.specs.declared.turn.Turn.{Turn}
use Rattle.record_check.specs.Replaying.{GoesOn, IsWrongRetired, IsRightMove, AreRightBelow, ShowsState, LeadsTo, ComesTo, IsFirstFault, retired_in, turn_at, text_at}
use Rattle.record_check.specs.Internal.ReplaySteps.{AreRetired, IsRightJoint, IsTurnFault}
use Rattle.record_reading.specs.declared.record_parts.RecordParts.{RecordParts}
use Rattle.record_reading.specs.declared.verify_fault.VerifyFault.{VerifyFault}
use Rattle.record_reading.specs.declared.verify_fault.VerifyFault.TheVariants.{NotJson, BadShape, Illegal, NotFirst, WrongRetired, WrongState, WrongGoals, WrongEnd, Memory}
use Rattle.record_check.proofs.RecordedMoves.{element-at}

pub LeadsTo-start : {S M : Type 0} (g : Rules S M) (p : RecordParts) → LeadsTo g p 0 g.initial
LeadsTo-start g p = record {
  turns = [];
  many = refl;
  lawful = λ k d lt. absurd (omega arith);
  state = refl;
  moves = refl;
  errors = refl;
  states = λ k lt. absurd (omega arith);
}

pub LeadsTo-more : {S M : Type 0} (g : Rules S M) → OneMoreTurn g → (p : RecordParts) (t : ℕ) (s next : S) (joint : List M) (leads : LeadsTo g p t s) → ShowsState g p t s → t < length p.moves → t < length p.errors → length (turn_at p.errors t) ≡ g.roles
    → IsRightJoint g (retired_by p.strikes leads.turns) s (turn_at p.moves t) (turn_at p.errors t) joint → next ≡ g.next s joint
    → (more : LeadsTo g p (t + 1) next) × (more.turns ≡ leads.turns ++ record { moves = joint; errors = turn_at p.errors t } ∷ [])
LeadsTo-more {S} {M} g one_more p t s next joint leads shown within_moves within_errors wide right is_next =
    let turn : Turn M = record { moves = joint; errors = turn_at p.errors t } in
    let lawful : IsLawfulTurn g p.strikes leads.turns turn =
    record {
      goes_on = subst (λ (x : S). g.terminal x ≡ false) leads.state right.goes_on.0;
      some_answer = right.goes_on.2;
      joint = subst (λ (x : S). IsJoint g x joint) leads.state right.joint;
      one_error = wide;
      judged = λ r d lt. subst (λ (x : S). IsPart g (retired_by p.strikes leads.turns r) (g.legal x r) (slice_index_or joint r d) (text_at (turn_at p.errors t) r)) leads.state (right.parts r d lt);
    }
    in
    let longer = one_more p.strikes leads.turns turn leads.lawful lawful in (
      record {
        turns = leads.turns ++ turn ∷ [];
        many = length_push leads.turns turn ∙ ap (λ n. n + 1) leads.many;
        lawful = longer.0;
        state = is_next ∙ ap (λ (x : S). g.next x joint) leads.state ∙ sym longer.1;
        moves = map_push (λ (u : Turn M). map g.move_text u.moves) leads.turns turn ∙ ap (λ ts. ts ++ map g.move_text joint ∷ []) leads.moves ∙ ap (λ texts. take t p.moves ++ texts ∷ []) right.texts ∙ sym (take_more p.moves t [] within_moves);
        errors = map_push (λ (u : Turn M). u.errors) leads.turns turn ∙ ap (λ ts. ts ++ turn_at p.errors t ∷ []) leads.errors ∙ sym (take_more p.errors t [] within_errors);
        states = λ k lt.
            elim (eq-or-lt_of_le {n = k} {m = t} (omega (arith, lt))) [
              | inl last ↦
                  subst (λ (n : ℕ). ShowsState g p n (state_after g (take n (leads.turns ++ turn ∷ [])))) (sym last)
                  (subst (λ (ts : List (Turn M)). ShowsState g p t (state_after g ts)) (sym (take_at leads.turns (turn ∷ []) t leads.many))
                  (subst (λ (x : S). ShowsState g p t x) leads.state shown))
              | inr below ↦
                  let inside : k ≤ length leads.turns = omega (arith, leads.many) in
                  subst (λ (ts : List (Turn M)). ShowsState g p k (state_after g ts)) (sym (take-append-le k leads.turns (turn ∷ []) inside)) (leads.states k below)
            ];
      },
      refl,
    )

turn-read : (lists : List (List (List ℕ))) (t : ℕ) (x : List (List ℕ)) → slice_get lists t ≡ Some x → x ≡ turn_at lists t
turn-read lists t x at = sym (get_or_from_slice_get lists t x [] at)

pub turn-fault : {S M : Type 0} (g : Rules S M) (p : RecordParts) (t : ℕ) (s : S) (f : VerifyFault) (comes : ComesTo g p t s) → IsTurnFault g (retired_in p comes) s (turn_at p.moves t) (turn_at p.errors t) t f → IsFirstFault g p f
turn-fault g p t s NotJson comes fault = fault
turn-fault g p t s (BadShape key) comes fault = fault
turn-fault g p t s (Illegal u r) comes fault = subst (λ k. IsFirstFault g p (Illegal k r)) (sym fault.0) (s, comes, fault.1, fault.2)
turn-fault g p t s (NotFirst u r) comes fault = subst (λ k. IsFirstFault g p (NotFirst k r)) (sym fault.0) (s, comes, fault.1, fault.2)
turn-fault g p t s (WrongRetired u r) comes fault = subst (λ k. IsFirstFault g p (WrongRetired k r)) (sym fault.0) (s, comes, fault.1, fault.2)
turn-fault g p t s (WrongState u) comes fault = absurd fault
turn-fault g p t s WrongGoals comes fault = absurd fault
turn-fault g p t s WrongEnd comes fault = inl (t, s, comes, fault)
turn-fault g p t s Memory comes fault = tt

-- ---- Which roles are retired, by their replaced moves so far

every_role-same : (n : ℕ) (p q : ℕ → Bool) → ((k : ℕ) → k < n → q k ≡ p k) → every_role n q ≡ every_role n p
every_role-same zero p q same = refl
every_role-same (suc n) p q same = rw (same n (omega arith), every_role-same n p q (λ k lt. same k (omega arith))) refl

strikes-retired : {M : Type 0} (roles strikes : ℕ) (turns : List (Turn M)) (kept : List RoleStrikes) → AreStrikes roles strikes turns kept → (r : ℕ) → r < roles → is_retired_in kept r ≡ retired_by strikes turns r
strikes-retired roles strikes turns kept are r lt = ap (λ (x : RoleStrikes). x.is_retired) (are.each r unstruck lt)

module _ {S M : Type 0} (g : Rules S M) (p q : ℕ → Bool) (same : (r : ℕ) → r < g.roles → p r ≡ q r) where
  goes_on-by : (s : S) → GoesOn g p s → GoesOn g q s
  goes_on-by s goes_on = (goes_on.0, goes_on.1, sym (every_role-same g.roles q p same) ∙ goes_on.2)

  pub right_joint-by : (s : S) (moves errors : List (List ℕ)) (joint : List M) → IsRightJoint g p s moves errors joint → IsRightJoint g q s moves errors joint
  right_joint-by s moves errors joint right = record {
    goes_on = goes_on-by s right.goes_on;
    joint = right.joint;
    texts = right.texts;
    parts = λ r d lt. subst (λ (b : Bool). IsPart g b (g.legal s r) (slice_index_or joint r d) (text_at errors r)) (same r lt) (right.parts r d lt);
  }

  below-by : (s : S) (moves errors : List (List ℕ)) (r : ℕ) → AreRightBelow g p s moves errors r → AreRightBelow g q s moves errors r
  below-by s moves errors r below = record {
    goes_on = goes_on-by s below.goes_on;
    within = below.within;
    right = λ k lt. subst (λ (b : Bool). IsRightMove g b (g.legal s k) (text_at moves k) (text_at errors k)) (same k (omega (arith, below.within))) (below.right k lt);
  }

-- the converse
goes_on-back : {S M : Type 0} (g : Rules S M) (p q : ℕ → Bool) → ((r : ℕ) → r < g.roles → p r ≡ q r) → (s : S) → GoesOn g q s → GoesOn g p s
goes_on-back g p q same = goes_on-by g q p (λ r lt. sym (same r lt))

pub turn_fault-by : {S M : Type 0} (g : Rules S M) (p q : ℕ → Bool) → ((r : ℕ) → r < g.roles → p r ≡ q r) → (s : S) (moves errors : List (List ℕ)) (t : ℕ) (f : VerifyFault) → IsTurnFault g p s moves errors t f → IsTurnFault g q s moves errors t f
turn_fault-by g p q same s moves errors t NotJson fault = fault
turn_fault-by g p q same s moves errors t (BadShape key) fault = fault
turn_fault-by g p q same s moves errors t (Illegal u r) fault = (fault.0, below-by g p q same s moves errors r fault.1, fault.2)
turn_fault-by g p q same s moves errors t (NotFirst u r) fault = (fault.0, below-by g p q same s moves errors r fault.1, fault.2)
turn_fault-by g p q same s moves errors t (WrongRetired u r) fault = (
  fault.0,
  below-by g p q same s moves errors r fault.1,
  subst (λ (b : Bool). IsWrongRetired g b (g.legal s r) (text_at moves r) (text_at errors r)) (same r fault.1.within) fault.2,
)
turn_fault-by g p q same s moves errors t (WrongState u) fault = fault
turn_fault-by g p q same s moves errors t WrongGoals fault = fault
turn_fault-by g p q same s moves errors t WrongEnd fault = λ goes_on. fault (goes_on-back g p q same s goes_on)
turn_fault-by g p q same s moves errors t Memory fault = tt

-- the turns that lead to a state, and the roles' strikes after them
pub record HasCome {S M : Type 0} (g : Rules S M) (p : RecordParts) (t : ℕ) (s : S) (kept : List RoleStrikes) : Type 0 where
  pub leads : LeadsTo g p t s
  pub strikes : AreStrikes g.roles p.strikes leads.turns kept
  pub is_state : g.IsState s

pub come-start : {S M : Type 0} (g : Rules S M) → IsLawful g → StrikesBegin M → (p : RecordParts) (s : S) (kept : List RoleStrikes) → s ≡ g.initial → kept ≡ replicate g.roles unstruck → HasCome g p 0 s kept
unfolding LeadsTo-start
come-start {S} {M} g laws begin p s kept is kept_is =
    subst (λ (x : S). HasCome g p 0 x kept) (sym is)
    (subst (λ (ks : List RoleStrikes). HasCome g p 0 g.initial ks) (sym kept_is) (record { leads = LeadsTo-start g p; strikes = begin g.roles p.strikes; is_state = laws.initial_is_state }))

pub come-retired : {S M : Type 0} (g : Rules S M) (p : RecordParts) (t : ℕ) (s : S) (kept : List RoleStrikes) (retired : ℕ) (come : HasCome g p t s kept) → every_role (length kept) (is_retired_in kept) ≡ (retired == length kept) → AreRetired g p come.leads.turns retired
come-retired g p t s kept retired come all =
    every_role-same g.roles (is_retired_in kept) (retired_by p.strikes come.leads.turns) (λ r lt. sym (strikes-retired g.roles p.strikes come.leads.turns kept come.strikes r lt))
    ∙ subst (λ n. every_role n (is_retired_in kept) ≡ (retired == n)) come.strikes.one_each all

pub come-few : {S M : Type 0} (g : Rules S M) → FewStrikes M → (p : RecordParts) (t : ℕ) (s : S) (kept : List RoleStrikes) → HasCome g p t s kept → t < length p.moves → length p.moves ≤ max_turns → All (λ k. k.in_a_row ≤ max_turns) kept
come-few g few_strikes p t s kept come lt few =
    let many = come.leads.many in
    few_strikes g.roles p.strikes come.leads.turns kept come.strikes (omega arith)

-- the next turn, by the record's texts for it and the roles' strikes so far
module _ {S M : Type 0} (g : Rules S M) (p : RecordParts) (t : ℕ) (s : S) (moves errors : List (List ℕ)) (kept : List RoleStrikes) (come : HasCome g p t s kept) (shown : ShowsState g p t s) (at_moves : slice_get p.moves t ≡ Some moves) (at_errors : slice_get p.errors t ≡ Some errors) where
  retired-is : (r : ℕ) → r < g.roles → is_retired_in kept r ≡ retired_by p.strikes come.leads.turns r
  retired-is r lt = strikes-retired g.roles p.strikes come.leads.turns kept come.strikes r lt

  pub come-more : IsLawful g → OneMoreTurn g → StrikesOfOneMore M → (next : S) (joint : List M) (after : List RoleStrikes) → length errors ≡ g.roles → IsRightJoint g (is_retired_in kept) s moves errors joint → next ≡ g.next s joint → length after ≡ length kept
      → ((r : ℕ) (d : RoleStrikes) → r < length kept → slice_index_or after r d ≡ after_turn p.strikes (slice_index_or kept r unstruck) (is_error (slice_index_or errors r []))) → HasCome g p (t + 1) next after
  come-more laws one_more strikes_more next joint after wide right is_next as_many each =
      let retired = retired_by p.strikes come.leads.turns in
      let errors_are = turn-read p.errors t errors at_errors in
      let known : IsRightJoint g retired s moves errors joint = right_joint-by g (is_retired_in kept) retired retired-is s moves errors joint right in
      let more =
      LeadsTo-more g one_more p t s next joint come.leads shown (slice_get_within p.moves t moves at_moves) (slice_get_within p.errors t errors at_errors) (subst (λ es. length es ≡ g.roles) errors_are wide)
      (subst (λ ms. IsRightJoint g retired s ms (turn_at p.errors t) joint) (turn-read p.moves t moves at_moves) (subst (λ es. IsRightJoint g retired s moves es joint) errors_are known)) is_next in
      record {
        leads = more.0;
        strikes =
            subst (λ (ts : List (Turn M)). AreStrikes g.roles p.strikes ts after) (sym more.1)
            (strikes_more g.roles p.strikes come.leads.turns (record { moves = joint; errors = turn_at p.errors t }) kept after come.strikes as_many
            (subst (λ (es : List (List ℕ)). (r : ℕ) (d : RoleStrikes) → r < length kept → slice_index_or after r d ≡ after_turn p.strikes (slice_index_or kept r unstruck) (is_error (slice_index_or es r []))) errors_are each));
        is_state = subst (λ (x : S). g.IsState x) (sym is_next) (laws.next_is_state s joint come.is_state right.joint);
      }

  pub come-fault : (f : VerifyFault) → IsTurnFault g (is_retired_in kept) s moves errors t f → IsFirstFault g p f
  come-fault f fault =
      let retired = retired_by p.strikes come.leads.turns in
      let known : IsTurnFault g retired s moves errors t f = turn_fault-by g (is_retired_in kept) retired retired-is s moves errors t f fault in
      turn-fault g p t s f (record { leads = come.leads; shown = shown; follows = slice_get_within p.moves t moves at_moves })
      (subst (λ ms. IsTurnFault g retired s ms (turn_at p.errors t) t f) (turn-read p.moves t moves at_moves) (subst (λ es. IsTurnFault g retired s moves es t f) (turn-read p.errors t errors at_errors) known))

-- ---- The turns are determined

same-moves : {S M : Type 0} (g : Rules S M) → IsLawful g → (xs ys : List M) → All (λ m. g.IsMove m) xs → All (λ m. g.IsMove m) ys → map g.move_text xs ≡ map g.move_text ys → xs ≡ ys
same-moves g laws [] [] here there same = refl
same-moves g laws [] (y ∷ ys) here there same = absurd cc
same-moves g laws (x ∷ xs) [] here there same = absurd cc
same-moves {S} {M} g laws (x ∷ xs) (y ∷ ys) here there same =
    let heads : g.move_text x ≡ g.move_text y = cc in
    let tails : map g.move_text xs ≡ map g.move_text ys = cc in
    let head : x ≡ y = laws.one_move_for_each_text x y (All-head (λ (m : M). g.IsMove m) x xs here) (All-head (λ (m : M). g.IsMove m) y ys there) heads in
    let tail = same-moves g laws xs ys (All-tail (λ (m : M). g.IsMove m) x xs here) (All-tail (λ (m : M). g.IsMove m) y ys there) tails in
    cc

same-turn : {M : Type 0} (t u : Turn M) → t.moves ≡ u.moves → t.errors ≡ u.errors → t ≡ u
same-turn t u moves errors = λ i. record { moves = moves i; errors = errors i }

same-turns : {S M : Type 0} (g : Rules S M) → IsLawful g → TurnsHaveMoves g → (strikes : ℕ) (xs ys : List (Turn M)) → AreLawful g strikes xs → AreLawful g strikes ys → length xs ≡ length ys
    → map (λ u. map g.move_text u.moves) xs ≡ map (λ u. map g.move_text u.moves) ys → map (λ u. u.errors) xs ≡ map (λ u. u.errors) ys → xs ≡ ys
same-turns {S} {M} g laws of_game strikes xs ys here there many moves errors = same_lists xs ys many at
  where
    moves-at : (ts : List (Turn M)) (k : ℕ) (t : Turn M) → AreLawful g strikes ts → k < length ts → slice_index_or ts k t ≡ t → All (λ m. g.IsMove m) t.moves
    moves-at ts k t lawful lt is = subst (λ (u : Turn M). All (λ m. g.IsMove m) u.moves) is (of_game strikes ts lawful k t lt)

    at : (k : ℕ) (d : Turn M) → k < length xs → slice_index_or xs k d ≡ slice_index_or ys k d
    at k d lt =
        let lt' : k < length ys = omega (arith, many) in
        let x = element-at xs k lt in
        let y = element-at ys k lt' in
        let texts : map g.move_text x.0.moves ≡ map g.move_text y.0.moves =
        ap (λ (u : Turn M). map g.move_text u.moves) (sym x.1) ∙ sym (get_or-map (λ (u : Turn M). map g.move_text u.moves) xs k x.0 [] lt) ∙ ap (λ ts. slice_index_or ts k []) moves
        ∙ get_or-map (λ (u : Turn M). map g.move_text u.moves) ys k y.0 [] lt' ∙ ap (λ (u : Turn M). map g.move_text u.moves) y.1 in
        let same_errors : x.0.errors ≡ y.0.errors =
        ap (λ (u : Turn M). u.errors) (sym x.1) ∙ sym (get_or-map (λ (u : Turn M). u.errors) xs k x.0 [] lt) ∙ ap (λ ts. slice_index_or ts k []) errors
        ∙ get_or-map (λ (u : Turn M). u.errors) ys k y.0 [] lt' ∙ ap (λ (u : Turn M). u.errors) y.1 in
        let same = same-turn x.0 y.0 (same-moves g laws x.0.moves y.0.moves (moves-at xs k x.0 here lt x.1) (moves-at ys k y.0 there lt' y.1) texts) same_errors in
        read xs k d x.0 lt x.1 ∙ same ∙ sym (read ys k d y.0 lt' y.1)
      where
        read : (ts : List (Turn M)) (k : ℕ) (d t : Turn M) → k < length ts → slice_index_or ts k t ≡ t → slice_index_or ts k d ≡ t
        read [] k d t lt is = absurd (omega arith)
        read (u ∷ us) zero d t lt is = is
        read (u ∷ us) (suc k) d t lt is = read us k d t (omega arith) is

AreLawful-take : {S M : Type 0} (g : Rules S M) (strikes : ℕ) (turns : List (Turn M)) (t : ℕ) → AreLawful g strikes turns → AreLawful g strikes (take t turns)
AreLawful-take {S} {M} g strikes turns t lawful k d lt =
    let inside : k < min t (length turns) = subst (λ n. k < n) (length-take t turns) lt in
    let below : k < t = omega arith in
    let within : k < length turns = omega arith in
    subst (λ (before : List (Turn M)). IsLawfulTurn g strikes before (slice_index_or (take t turns) k d)) (sym (take-take k t turns (omega arith)))
    (subst (λ (u : Turn M). IsLawfulTurn g strikes (take k turns) u) (sym (get_or-take t turns k d below)) (lawful k d within))

pub leads-within : {S M : Type 0} (g : Rules S M) (p : RecordParts) (t : ℕ) (s : S) → LeadsTo g p t s → t ≤ length p.moves
leads-within {S} {M} g p t s leads =
    let many : t ≡ min t (length p.moves) = sym leads.many ∙ sym (length-map leads.turns (λ (u : Turn M). map g.move_text u.moves)) ∙ ap length leads.moves ∙ length-take t p.moves in
    omega arith

pub leads-front : {S M : Type 0} (g : Rules S M) → IsLawful g → TurnsHaveMoves g → (p : RecordParts) (t : ℕ) (s : S) (leads : LeadsTo g p t s) (turns : List (Turn M)) → AreLawful g p.strikes turns
    → map (λ u. map g.move_text u.moves) turns ≡ p.moves → map (λ u. u.errors) turns ≡ p.errors → leads.turns ≡ take t turns
leads-front {S} {M} g laws of_game p t s leads turns lawful moves errors =
    let within : t ≤ length turns = subst (λ n. t ≤ n) (sym (ap length moves) ∙ length-map turns (λ (u : Turn M). map g.move_text u.moves)) (leads-within g p t s leads) in
    let many : length leads.turns ≡ length (take t turns) = leads.many ∙ sym (length-take t turns ∙ least within) in
    same-turns g laws of_game p.strikes leads.turns (take t turns) leads.lawful (AreLawful-take g p.strikes turns t lawful) many
    (leads.moves ∙ ap (take t) (sym moves) ∙ take-map (λ (u : Turn M). map g.move_text u.moves) t turns) (leads.errors ∙ ap (take t) (sym errors) ∙ take-map (λ (u : Turn M). u.errors) t turns)
  where
    least : t ≤ length turns → min t (length turns) ≡ t
    least le = omega arith
