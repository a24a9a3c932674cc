-- The number that digits represent, computed digit by digit.
use Rattle.std.proofs.Common.{◌≡◌, ℕ, zero, suc, ◌+◌, ◌-◌, ◌*◌, ◌/◌, ◌<◌, ◌≤◌, true, nat_lt, List, [], ◌∷◌, length, get_or, take, sym, ◌∙◌, arith}
use Rattle.std.specs.Char.{digit_value, is_ascii_digit}
use Rattle.std.specs.List.{list_all}
use Rattle.std.specs.Str.Parse.{digits_value}
use Rattle.std.proofs.lemmas.Bool.{and_parts}
use Rattle.std.proofs.lemmas.Bool.Decides.{nat_tests}
use Rattle.std.proofs.lemmas.Int.Digits.{digits_value_more}
use Rattle.std.proofs.lemmas.Str.Parse.{digits_value-take-le}
use Rattle.game_core.specs.Numerals.{are_digits}

digit_at : (digits : List ℕ) (i : ℕ) → list_all is_ascii_digit digits ≡ true → i < length digits → is_ascii_digit (get_or digits i 0) ≡ true
digit_at [] i are within = absurd (omega arith)
digit_at (x ∷ xs) zero are within = (and_parts (is_ascii_digit x) (list_all is_ascii_digit xs) are).0
digit_at (x ∷ xs) (suc i) are within = digit_at xs i (and_parts (is_ascii_digit x) (list_all is_ascii_digit xs) are).1 (omega arith)

value_is : (b : ℕ) → is_ascii_digit b ≡ true → b - 48 ≡ digit_value b
value_is b is = grind (arith, nat_tests)

pub next_number : (digits : List ℕ) (i n r : ℕ) → are_digits digits ≡ true → i < length digits → n ≡ digits_value 10 (take i digits)
    → r ≡ get_or digits i 0 - 48 → n * 10 + r ≡ digits_value 10 (take (i + 1) digits)
next_number digits i n r are within so_far more =
    let last : r ≡ digit_value (get_or digits i 0) = more ∙ value_is (get_or digits i 0) (digit_at digits i (and_parts (nat_lt 0 (length digits)) (list_all is_ascii_digit digits) are).1 within) in
    (λ j. so_far j * 10 + last j) ∙ sym (digits_value_more 10 digits i within)

-- if the number so far does not fit into 64 bits, the whole number does not fit
pub too_long : (digits : List ℕ) (i n r : ℕ) → n * 10 + r ≡ digits_value 10 (take (i + 1) digits) → (18446744073709551615 - r) / 10 < n → 18446744073709551616 ≤ digits_value 10 digits
too_long digits i n r next above =
    let least = digits_value-take-le 10 digits (i + 1) (omega arith) in
    omega (arith, least, next, above)
