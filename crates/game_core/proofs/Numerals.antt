-- The digits of a number's decimal text.
use Rattle.std.proofs.Common.{◌≡◌, ℕ, ◌+◌, ◌<◌, ◌%◌, ◌^◌, not, ◌==◌, nat_lt, true, List, [], ◌∷◌, ◌++◌, length, length-append, refl, arith}
use Rattle.std.specs.List.{list_all}
use Rattle.std.specs.Char.{is_ascii_digit}
use Rattle.std.specs.Fmt.{decimal}
use Rattle.std.proofs.lemmas.Fmt.{decimal_by_steps}
pub use Rattle.std.proofs.lemmas.Bool.{and_from as both, and_parts as parts}
use Rattle.std.proofs.lemmas.Bool.Decides.{nat_tests}

pub record AreDigits (ds : List ℕ) : Type 0 where
  pub some : 0 < length ds
  pub digits : list_all is_ascii_digit ds ≡ true

digit_is_digit : (d : ℕ) → d < 10 → is_ascii_digit (48 + d) ≡ true
digit_is_digit d small = grind (arith, nat_tests)

one_digit : (d : ℕ) → d < 10 → AreDigits ((48 + d) ∷ [])
one_digit d small = record { some = omega arith; digits = both (is_ascii_digit (48 + d)) true (digit_is_digit d small) refl }

digits_append : (xs ys : List ℕ) → list_all is_ascii_digit xs ≡ true → list_all is_ascii_digit ys ≡ true → list_all is_ascii_digit (xs ++ ys) ≡ true
digits_append [] ys left right = right
digits_append (x ∷ xs) ys left right = let p = parts (is_ascii_digit x) (list_all is_ascii_digit xs) left in both (is_ascii_digit x) (list_all is_ascii_digit (xs ++ ys)) p.0 (digits_append xs ys p.1 right)

one_digit_more : (ds : List ℕ) (d : ℕ) → d < 10 → AreDigits ds → AreDigits (ds ++ (48 + d) ∷ [])
one_digit_more ds d small front =
    let last = one_digit d small in
    record { some = simp length-append (omega arith); digits = digits_append ds ((48 + d) ∷ []) front.digits last.digits }

pub decimal_is_digits : (n : ℕ) → n < 2 ^ 64 → AreDigits (decimal n)
decimal_is_digits n small = decimal_by_steps (λ _ ds. AreDigits ds) one_digit (λ m ds some front. one_digit_more ds (m % 10) (omega arith) front) n small

pub no_zero : (b : ℕ) → 48 < b → not (b == 48) ≡ true
no_zero b above = grind (arith, nat_tests)

pub is_some : (n : ℕ) → 0 < n → nat_lt 0 n ≡ true
is_some n some = grind (arith, nat_tests)
