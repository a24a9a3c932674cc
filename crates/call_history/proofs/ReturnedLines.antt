-- Lines that come back to their desk, taken one after another.
use Rattle.std.proofs.Common.{◌≡◌, ◌≢◌, ℕ, ◌<◌, ◌+◌, zero, suc, Bool, true, false, cond, List, [], ◌∷◌, length, get_or, replicate, refl, sym, ◌∙◌, ap, subst, arith, sum, count_by, Contains, eqb, inl, inr}
use Rattle.std.proofs.Math.ListN.{set}
use Rattle.std.proofs.lemmas.List.{get_or-set_other, get_or-set_same, length-set, get_or-replicate, length-replicate, nil_from_length}
use Rattle.std.proofs.lemmas.Bool.Decides.{eqb_tells}
use Rattle.std.proofs.lemmas.List.Sums.{sum_by-set, sum_by-cons}
use Rattle.std.proofs.lemmas.List.Folds.{sum_by-replicate}
use Rattle.call_history.specs.Lines.{LockLineValue, numbers, has_number, HasAll}

-- Of these lines, those in `rest` are still to come. For an awaited number, no line has come yet. For each other number, `made` has the
-- number of the line's calls. The parts and the amount are those of the combined shares.
pub record IsGathering (lines rest : List LockLineValue) (awaited : List Bool) (made : List ℕ) (parts amount : ℕ) : Type 0 where
  pub width : length made ≡ length awaited
  pub parts_so_far : parts + count_by (λ b. b) awaited ≡ length awaited
  pub amount_so_far : amount ≡ sum made
  pub zeros : (k : ℕ) → get_or awaited k false ≡ true → get_or made k 0 ≡ 0
  pub left : (k : ℕ) → get_or awaited k false ≡ true → has_number k (numbers rest) ≡ true
  pub given : (line : LockLineValue) → Contains rest line → Contains lines line
  pub noted : (k : ℕ) → k < length awaited → get_or awaited k false ≡ false → Contains lines (record { number = k; made = get_or made k 0 })

count_by-all : (bs : List Bool) → ((k : ℕ) → k < length bs → get_or bs k false ≡ true) → count_by (λ b. b) bs ≡ length bs
count_by-all [] all = refl
count_by-all (b ∷ bs) all =
    let here : b ≡ true = all zero (omega arith) in
    let step : count_by (λ (x : Bool). x) (b ∷ bs) ≡ cond b 1 0 + count_by (λ (x : Bool). x) bs = sum_by-cons (λ (x : Bool). cond x 1 0) b bs in
    let rest : count_by (λ (x : Bool). x) bs ≡ length bs = count_by-all bs (λ k h. all (suc k) (omega arith)) in
    rw (step, here, rest) (omega arith)

count_by-none : (bs : List Bool) → ((k : ℕ) → get_or bs k false ≡ true → ⊥) → count_by (λ b. b) bs ≡ 0
count_by-none [] none = refl
count_by-none (true ∷ bs) none = absurd (none zero refl)
count_by-none (false ∷ bs) none =
    let step : count_by (λ (x : Bool). x) (false ∷ bs) ≡ 0 + count_by (λ (x : Bool). x) bs = sum_by-cons (λ (x : Bool). cond x 1 0) false bs in
    step ∙ omega (arith, count_by-none bs (λ k h. none (suc k) h))

within_of_true : (bs : List Bool) (k : ℕ) → get_or bs k false ≡ true → k < length bs
within_of_true [] k h = absurd (cc)
within_of_true (b ∷ bs) zero h = omega arith
within_of_true (b ∷ bs) (suc k) h = omega (arith, within_of_true bs k h)

false_of : (b : Bool) → (b ≡ true → ⊥) → b ≡ false
false_of true never = absurd (never refl)
false_of false never = refl

pub IsGathering-start : (lines left : List LockLineValue) (awaited : List Bool) (made : List ℕ) (parts amount : ℕ) → HasAll (numbers lines) (length awaited) → ((k : ℕ) → k < length awaited → get_or awaited k false ≡ true)
    → made ≡ replicate (length awaited) 0 → parts ≡ 0 → amount ≡ 0 → left ≡ lines → IsGathering lines left awaited made parts amount
IsGathering-start lines left awaited made parts amount has all zeros no_parts no_amount same =
    let n = length awaited in
    record {
      width = ap length zeros ∙ length-replicate n 0;
      parts_so_far = omega (arith, count_by-all awaited all);
      amount_so_far = rw zeros (omega (arith, sum_by-replicate (λ (x : ℕ). x) n 0));
      zeros = λ k h. rw zeros (get_or-replicate n k 0 0 (within_of_true awaited k h));
      left = λ k h. rw same (has k (within_of_true awaited k h));
      given = λ line h. rw same at h;
      noted = λ k within h. absurd (let yes = all k within in cc);
    }

-- a line with another number can be left out
has_number-other : (k : ℕ) (line : LockLineValue) (rest : List LockLineValue) → k ≢ line.number → has_number k (numbers (line ∷ rest)) ≡ true → has_number k (numbers rest) ≡ true
has_number-other k line rest other has =
    let fails : eqb line.number k ≡ false = elim (eqb_tells line.number k) [ inl same ↦ absurd (other (sym same.1)) | inr differ ↦ differ.0 ] in
    rw fails at has

Contains-more : (line : LockLineValue) (rest : List LockLineValue) (other : LockLineValue) → Contains rest other → Contains (line ∷ rest) other
Contains-more line rest other here = (suc here.0, omega (arith, here.1), here.2)

pub IsGathering-take : (lines left rest : List LockLineValue) (line : LockLineValue) (awaited : List Bool) (made : List ℕ) (parts amount parts' amount' : ℕ) → IsGathering lines left awaited made parts amount
    → left ≡ line ∷ rest → get_or awaited line.number false ≡ true → parts' ≡ parts + 1 → amount' ≡ amount + line.made
    → IsGathering lines rest (set awaited line.number false) (set made line.number line.made) parts' amount'
IsGathering-take lines left rest line awaited made parts amount parts' amount' before comes is_awaited more_parts more_amount =
    let so_far : IsGathering lines (line ∷ rest) awaited made parts amount = rw comes at before in
    let n = line.number in
    let within : n < length awaited = within_of_true awaited n is_awaited in
    let counts = sum_by-set (λ (b : Bool). cond b 1 0) awaited n false false within in
    let sums = sum_by-set (λ (x : ℕ). x) made n line.made 0 (omega (arith, so_far.width)) in
    let was_one : cond {A = ℕ} (get_or awaited n false) 1 0 ≡ 1 = rw is_awaited refl in
    let was_zero : get_or made n 0 ≡ 0 = so_far.zeros n is_awaited in
    let passed : get_or (set awaited n false) n false ≡ false = get_or-set_same awaited n false false within in
    let other_of : (k : ℕ) → get_or (set awaited n false) k false ≡ true → k ≢ n = λ k h e. let same : get_or (set awaited n false) n false ≡ true = subst (λ (j : ℕ). get_or (set awaited n false) j false ≡ true) e h in cc in
    let was_awaited : (k : ℕ) → get_or (set awaited n false) k false ≡ true → get_or awaited k false ≡ true = λ k h. sym (get_or-set_other awaited n k false false (other_of k h)) ∙ h in
    let noted_here : Contains lines (record { number = n; made = get_or (set made n line.made) n 0 }) =
    let is : get_or (set made n line.made) n 0 ≡ line.made = get_or-set_same made n line.made 0 (omega (arith, so_far.width)) in
    subst (λ (m : ℕ). Contains lines (record { number = n; made = m })) (sym is) (so_far.given line (zero, omega arith, refl)) in
    let noted_other : (k : ℕ) → k ≢ n → k < length awaited → get_or (set awaited n false) k false ≡ false → Contains lines (record { number = k; made = get_or (set made n line.made) k 0 }) = λ k other k_within h.
    let is : get_or (set made n line.made) k 0 ≡ get_or made k 0 = get_or-set_other made n k line.made 0 other in
    subst (λ (m : ℕ). Contains lines (record { number = k; made = m })) (sym is) (so_far.noted k k_within (sym (get_or-set_other awaited n k false false other) ∙ h)) in
    record {
      width = length-set made n line.made ∙ (so_far.width ∙ sym (length-set awaited n false));
      parts_so_far = omega (arith, more_parts, so_far.parts_so_far, counts, was_one, length-set awaited n false);
      amount_so_far = omega (arith, more_amount, so_far.amount_so_far, sums, was_zero);
      zeros = λ k h. get_or-set_other made n k line.made 0 (other_of k h) ∙ so_far.zeros k (was_awaited k h);
      left = λ k h. has_number-other k line rest (other_of k h) (so_far.left k (was_awaited k h));
      given = λ other h. so_far.given other (Contains-more line rest other h);
      noted = λ k k_within h. elim (eqb_tells k n) [
        | inl same ↦ subst (λ (j : ℕ). Contains lines (record { number = j; made = get_or (set made n line.made) j 0 })) (sym same.1) noted_here
        | inr other ↦ noted_other k other.1 (omega (arith, length-set awaited n false)) h
      ];
    }

-- a line whose number is not awaited
pub IsGathering-pass : (lines left rest : List LockLineValue) (line : LockLineValue) (awaited : List Bool) (made : List ℕ) (parts amount : ℕ) → IsGathering lines left awaited made parts amount
    → left ≡ line ∷ rest → get_or awaited line.number false ≡ false → IsGathering lines rest awaited made parts amount
IsGathering-pass lines left rest line awaited made parts amount before comes passed =
    let so_far : IsGathering lines (line ∷ rest) awaited made parts amount = rw comes at before in
    let other_of : (k : ℕ) → get_or awaited k false ≡ true → k ≢ line.number = λ k h e. let same : get_or awaited line.number false ≡ true = subst (λ (j : ℕ). get_or awaited j false ≡ true) e h in cc in
    record {
      width = so_far.width;
      parts_so_far = so_far.parts_so_far;
      amount_so_far = so_far.amount_so_far;
      zeros = so_far.zeros;
      left = λ k h. has_number-other k line rest (other_of k h) (so_far.left k h);
      given = λ other h. so_far.given other (Contains-more line rest other h);
      noted = so_far.noted;
    }

pub IsGathering-end : (lines left : List LockLineValue) (awaited : List Bool) (made : List ℕ) (parts amount : ℕ) → IsGathering lines left awaited made parts amount → length left ≡ 0
    → (parts ≡ length awaited) × ((k : ℕ) → k < length awaited → Contains lines (record { number = k; made = get_or made k 0 }))
IsGathering-end lines left awaited made parts amount before none_left =
    let so_far : IsGathering lines [] awaited made parts amount = rw (nil_from_length left none_left) at before in
    let none : (k : ℕ) → get_or awaited k false ≡ true → ⊥ = λ k h. let no : false ≡ true = so_far.left k h in cc in
    let all_false : (k : ℕ) → get_or awaited k false ≡ false = λ k. false_of (get_or awaited k false) (none k) in
    (omega (arith, so_far.parts_so_far, count_by-none awaited none), λ k within. so_far.noted k within (all_false k))
