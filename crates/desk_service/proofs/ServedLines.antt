-- The numbers of the lines of a service.
use Rattle.std.proofs.Common.{◌≡◌, ◌<◌, ℕ, zero, suc, Bool, true, false, List, [], ◌∷◌, length, refl, sym, ap, subst, ◌∙◌, arith, inl, inr}
use Rattle.std.specs.Prelude.{◌==◌, ◌||◌, get_or}
use Rattle.std.proofs.lemmas.Bool.{cases_lt}
use Rattle.std.proofs.lemmas.Bool.Decides.{nat_tests}
use Rattle.std.proofs.lemmas.List.{map-append}
use Rattle.std.proofs.lemmas.List.Folds.{list_any-append}
use Rattle.call_history.specs.Lines.{LockLineValue, new_lines, numbers, has_number, HasAll}

pub same_numbers : (xs ys : List LockLineValue) → length ys ≡ length xs
    → ((i : ℕ) (d : LockLineValue) → i < length xs → (get_or ys i d).number ≡ (get_or xs i d).number) → numbers ys ≡ numbers xs
same_numbers [] [] same each = refl
same_numbers [] (y ∷ ys) same each = absurd (omega arith)
same_numbers (x ∷ xs) [] same each = absurd (omega arith)
same_numbers (x ∷ xs) (y ∷ ys) same each =
    let head : y.number ≡ x.number = each 0 x (omega arith) in
    let tail = same_numbers xs ys (omega arith) (λ i d below. each (suc i) d (omega arith)) in
    ap (λ n. n ∷ numbers ys) head ∙ ap (λ l. x.number ∷ l) tail

true_after : (a b : Bool) → b ≡ true → (a || b) ≡ true
true_after true b h = refl
true_after false b h = h

has_itself : (n : ℕ) → has_number n (n ∷ []) ≡ true
has_itself n = grind (arith, nat_tests)

-- the lines of a new desk are all its lines
pub new_has_all : (n : ℕ) → HasAll (numbers (new_lines n)) n
new_has_all zero k below = absurd (omega arith)
new_has_all (suc n) k below =
    let last : LockLineValue = record { number = n; made = 0 } in
    let cut = ap (has_number k) (map-append (λ line. line.number) (new_lines n) (last ∷ [])) ∙ list_any-append (λ m. m == k) (numbers (new_lines n)) (n ∷ []) in
    elim (cases_lt k n) [
      | inl h ↦ cut ∙ ap (λ b. b || has_number k (n ∷ [])) (new_has_all n k h)
      | inr h ↦ let same : n ≡ k = omega arith in cut ∙ true_after _ _ (subst (λ m. has_number k (m ∷ []) ≡ true) (sym same) (has_itself k))
    ]
