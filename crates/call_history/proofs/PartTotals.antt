-- The counts of the lines add up to the length of the history.
use Rattle.std.proofs.Common.{◌≡◌, ℕ, ◌+◌, ◌<◌, ◌≤◌, ◌≢◌, ⊎_elim, zero, suc, List, [], ◌∷◌, length, get_or, set, sum, refl, sym, ◌∙◌, ap, subst, arith}
use Rattle.std.specs.List.{All}
use Rattle.std.proofs.lemmas.Grind.{common_steps}
use Rattle.std.proofs.lemmas.Bool.{cases_lt}
use Rattle.std.proofs.lemmas.List.{length-set}
use Rattle.std.proofs.lemmas.List.Sums.{sum_by-set, sum_by-cons}
use Rattle.call_history.proofs.ServedLines.{get_set}
use Rattle.call_history.specs.declared.journal.Entry.{Entry}
use Rattle.call_history.specs.Parts.{part, entries_below}

sum_zero : (made : List ℕ) → ((i : ℕ) → i < length made → get_or made i 0 ≡ 0) → sum made ≡ 0
sum_zero [] all = refl
sum_zero (x ∷ xs) all =
    let here : x ≡ 0 = all 0 (omega arith) in let rest = sum_zero xs (λ i below. all (suc i) (omega arith)) in omega (arith, here, rest, sum_by-cons (λ n. n) x xs)

sum_set : (xs : List ℕ) (i y : ℕ) → i < length xs → sum (set xs i y) + get_or xs i 0 ≡ sum xs + y
sum_set xs i y lt = sum_by-set (λ n. n) xs i y 0 lt

get_set_at : (xs : List ℕ) (i j y : ℕ) (P : ℕ → Type 0) → i < length xs → (j ≡ i → P y) → (j ≢ i → P (get_or xs j 0)) → P (get_or (set xs i y) j 0)
get_set_at xs i j y P lt at other = get_set P xs i j y 0 lt at other

none_below : (C R : Type 0) (n : ℕ) → entries_below {C = C} {R = R} n [] ≡ 0
none_below C R zero = refl
none_below C R (suc n) = omega (arith, none_below C R n)

module _ {C R : Type 0} where
  part_here : (e : Entry C R) (h : List (Entry C R)) → length (part e.line (e ∷ h)) ≡ length (part e.line h) + 1
  part_here e h = grind (arith, common_steps)

  part_there : (e : Entry C R) (h : List (Entry C R)) (i : ℕ) → i ≢ e.line → part i (e ∷ h) ≡ part i h
  part_there e h i ne = grind (arith, common_steps)

  pub total : (h : List (Entry C R)) (made : List ℕ) → ((i : ℕ) → i < length made → get_or made i 0 ≡ length (part i h)) → All (λ e. e.line < length made) h → sum made ≡ length h
  total [] made each lines = sum_zero made each
  total (e ∷ h) made each lines =
      let lt : e.line < length made = lines 0 e (omega arith) in
      let here : get_or made e.line 0 ≡ length (part e.line h) + 1 = each e.line lt ∙ part_here e h in
      let less = set made e.line (length (part e.line h)) in
      let len : length less ≡ length made = length-set _ _ _ in
      let rest : sum less ≡ length h = total h less
      (λ i below. get_set_at made e.line i (length (part e.line h)) (λ x. x ≡ length (part i h)) lt
      (λ at. ap (λ n. length (part n h)) (sym at))
      (λ ne. each i (omega (arith, below, len)) ∙ ap length (part_there e h i ne)))
      (λ k d below. let l : _ = lines (suc k) d (omega arith) in omega (arith, l, len)) in
      let moved = sum_set made e.line (length (part e.line h)) lt in
      omega (arith, here, rest, moved)

  past_below : (e : Entry C R) (h : List (Entry C R)) (n : ℕ) → n ≤ e.line → entries_below n (e ∷ h) ≡ entries_below n h
  past_below e h zero past = refl
  past_below e h (suc n) past = omega (arith, past_below e h n (omega (arith, past)), ap length (part_there e h n (λ is. absurd (omega (arith, is, past)))))

  one_below : (e : Entry C R) (h : List (Entry C R)) (n : ℕ) → e.line < n → entries_below n (e ∷ h) ≡ entries_below n h + 1
  one_below e h zero below = absurd (omega (arith, below))
  one_below e h (suc n) below =
      ⊎_elim
      (λ (less : e.line < n). omega (arith, one_below e h n less, ap length (part_there e h n (λ is. absurd (omega (arith, is, less))))))
      (λ (past : n ≤ e.line).
      let at : e.line ≡ n = omega (arith, below, past) in
      let here : length (part n (e ∷ h)) ≡ length (part n h) + 1 = subst (λ k. length (part k (e ∷ h)) ≡ length (part k h) + 1) at (part_here e h) in
      omega (arith, past_below e h n past, here))
      (cases_lt e.line n)

  pub all_below : (h : List (Entry C R)) (n : ℕ) → All (λ e. e.line < n) h → length h ≡ entries_below n h
  all_below [] n lines = sym (none_below C R n)
  all_below (e ∷ h) n lines = omega (arith, all_below h n (λ k d below. lines (suc k) d (omega (arith, below))), one_below e h n (lines 0 e (omega arith)))
