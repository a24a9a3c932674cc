-- A sorted set of texts is in byte order.
use Rattle.std.proofs.Common.{◌≡◌, ℕ, zero, suc, ◌<◌, ◌≤◌, Bool, true, false, ◌||◌, bytes_eq, nat_eq, nat_lt, nat_cmp, is_lt, List, [], ◌∷◌, ◌++◌, if◌then◌else◌, length, get_or, refl, sym, ap, ◌∙◌, arith, inl, inr}
use mathlib.Core.Bool.{or-false, or_assoc}
use Rattle.std.specs.List.{IsDistinct, AllByRecursion, Contains}
use Rattle.std.specs.List.Sorted.{IsSorted, IsPermutation}
use Rattle.std.specs.Cmp.Lexicographic.{slice_cmp, nat_list_cmp_total}
use Rattle.std.proofs.lemmas.Bool.{cases_order, false_from_ne_true}
use Rattle.std.proofs.lemmas.Bool.Decides.{Decides-ltb}
use Rattle.std.proofs.lemmas.List.Sorted.{sorted_far, ranks_by, Contains-permutation, IsPermutation-sym}
use Rattle.ground_rules.specs.Lawfulness.Bools.{and-both, or-left, or-right, bool-same}
use Rattle.ground_rules.specs.Lawfulness.Names.{text-sound, text-same, number-same}
use Rattle.rule_sentences.specs.Descriptions.{is_among, with_new, with_all_new}
use Rattle.ground_rules.specs.Lawfulness.TableTests.{comes_before, comes_before_all, are_in_order}
use Rattle.ground_rules.proofs.NameLists.{among-any}

not-below : (m n : ℕ) → (m < n → ⊥) → nat_lt m n ≡ false
not-below m n h = false_from_ne_true (nat_lt m n) (λ e. h ((Decides-ltb m n).0 e))

cmp-before : (a b : List ℕ) → is_lt (slice_cmp nat_cmp b a) ≡ false → bytes_eq a b ≡ false → comes_before a b ≡ true
cmp-before [] [] f e = absurd cc
cmp-before [] (b ∷ bs) f e = refl
cmp-before (a ∷ as') [] f e = absurd cc
cmp-before (a ∷ as') (b ∷ bs) f e = elim (cases_order a b) [
  | inl same ↦
      let lt : nat_lt b a ≡ false = not-below b a (λ h. omega arith) in
      let eq : nat_eq b a ≡ true = number-same b a (sym same) in
      let eq' : nat_eq a b ≡ true = number-same a b same in
      or-right _ _ (and-both (nat_eq a b) _ eq' (cmp-before as' bs (rw (lt, eq) at f) (rw eq' at e)))
  | inr f' ↦ elim f' [
    | inl below ↦ or-left _ _ ((Decides-ltb a b).1 below)
    | inr above ↦ let lt : nat_lt b a ≡ true = (Decides-ltb b a).1 above in let wrong = rw lt at f in absurd cc
  ]
]

first : (k : List ℕ) (ks : List (List ℕ)) → AllByRecursion (λ y. bytes_eq k y ≡ false) ks → ((j : ℕ) (d : List ℕ) → j < length ks → is_lt (slice_cmp nat_cmp (get_or ks j d) k) ≡ false) → comes_before_all k ks ≡ true
first k [] u far = refl
first k (y ∷ ys) u far = and-both (comes_before k y) _ (cmp-before k y (far 0 y (omega arith)) u.0) (first k ys u.1 (λ j d lt. far (suc j) d (omega (arith, lt))))

order-from : (ks : List (List ℕ)) → IsDistinct bytes_eq ks → ((i j : ℕ) (d : List ℕ) → i ≤ j → j < length ks → is_lt (slice_cmp nat_cmp (get_or ks j d) (get_or ks i d)) ≡ false) → are_in_order ks ≡ true
unfolding IsDistinct
order-from [] u far = refl
order-from (k ∷ ks) u far =
    and-both (comes_before_all k ks) _ (first k ks u.0 (λ j d lt. far 0 (suc j) d (omega arith) (omega (arith, lt))))
    (order-from ks u.1 (λ i j d le lt. far (suc i) (suc j) d (omega (arith, le)) (omega (arith, lt))))

pub sorted-in-order : (ks : List (List ℕ)) → IsDistinct bytes_eq ks → IsSorted (slice_cmp nat_cmp) ks → are_in_order ks ≡ true
sorted-in-order ks u sorted = order-from ks u (sorted_far (λ x y. is_lt (slice_cmp nat_cmp x y)) (ranks_by nat_list_cmp_total (λ (t : List ℕ). t)) ks sorted)

among-contains : (xs : List (List ℕ)) (t : List ℕ) → is_among xs t ≡ true → Contains xs t
among-contains [] t h = absurd cc
among-contains (x ∷ xs) t h = by-head (bytes_eq x t) refl (among-contains xs t) h
  where
    by-head : (b : Bool) → bytes_eq x t ≡ b → (is_among xs t ≡ true → Contains xs t) → (b || is_among xs t) ≡ true → Contains (x ∷ xs) t
    by-head true is rest e = (0, omega arith, text-sound x t is)
    by-head false is rest e = let c = rest e in (suc c.0, omega (arith, c.1), c.2)

contains-among : (xs : List (List ℕ)) (t : List ℕ) (k : ℕ) → k < length xs → get_or xs k t ≡ t → is_among xs t ≡ true
contains-among [] t k lt at = absurd (omega (arith, lt))
contains-among (x ∷ xs) t zero lt at = or-left _ _ (text-same x t at)
contains-among (x ∷ xs) t (suc k) lt at = or-right _ _ (contains-among xs t k (omega (arith, lt)) at)

among-permuted : (xs ys : List (List ℕ)) (t : List ℕ) → IsPermutation xs ys → is_among xs t ≡ is_among ys t
among-permuted xs ys t moved =
    bool-same (is_among xs t) (is_among ys t)
    (λ h. let c = Contains-permutation xs ys t moved (among-contains xs t h) in contains-among ys t c.0 c.1 c.2)
    (λ h. let c = Contains-permutation ys xs t (IsPermutation-sym xs ys moved) (among-contains ys t h) in contains-among xs t c.0 c.1 c.2)

among-append : (xs ys : List (List ℕ)) (t : List ℕ) → is_among (xs ++ ys) t ≡ (is_among xs t || is_among ys t)
among-append [] ys t = refl
among-append (x ∷ xs) ys t = ap (λ b. bytes_eq x t || b) (among-append xs ys t) ∙ sym (or_assoc (bytes_eq x t) (is_among xs t) (is_among ys t))

new-by : (seen : List (List ℕ)) (x t : List ℕ) (b : Bool) → is_among seen x ≡ b → is_among (if b then seen else seen ++ x ∷ []) t ≡ (is_among seen t || bytes_eq x t)
new-by seen x t true is =
    bool-same (is_among seen t) (is_among seen t || bytes_eq x t) (or-left _ _)
    (λ h. by-either (is_among seen t) refl h)
  where
    by-either : (b : Bool) → is_among seen t ≡ b → (b || bytes_eq x t) ≡ true → is_among seen t ≡ true
    by-either true e h = e
    by-either false e h = ap (is_among seen) (sym (text-sound x t h)) ∙ is
new-by seen x t false is = among-append seen (x ∷ []) t ∙ ap (λ b. is_among seen t || b) (or-false (bytes_eq x t))

among-new : (seen : List (List ℕ)) (x t : List ℕ) → is_among (with_new bytes_eq seen x) t ≡ (is_among seen t || bytes_eq x t)
among-new seen x t = rw (← among-any seen x) (new-by seen x t (is_among seen x) refl)

pub among-all-new : (seen xs : List (List ℕ)) (t : List ℕ) → is_among (with_all_new bytes_eq seen xs) t ≡ (is_among seen t || is_among xs t)
among-all-new seen [] t = sym (or-false (is_among seen t))
among-all-new seen (x ∷ xs) t = among-all-new (with_new bytes_eq seen x) xs t ∙ ap (λ b. b || is_among xs t) (among-new seen x t) ∙ or_assoc (is_among seen t) (bytes_eq x t) (is_among xs t)

-- sorting a set keeps its texts
pub sorted-same : (ks js xs : List (List ℕ)) (t : List ℕ) → IsPermutation ks js → ks ≡ with_all_new bytes_eq [] xs → is_among js t ≡ is_among xs t
sorted-same ks js xs t moved e =
    sym (among-permuted ks js t moved) ∙ ap (λ ys. is_among ys t) e ∙ among-all-new [] xs t
