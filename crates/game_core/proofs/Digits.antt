-- The number that digits represent, computed digit by digit.
use Rattle.std.proofs.Common.{◌≡◌, ℕ, zero, suc, ◌+◌, ◌-◌, ◌*◌, None, take, ◌<◌, true, false, List, [], ◌∷◌, length, get_or, refl, sym, ◌∙◌, arith}
use Rattle.std.specs.Prelude.{nat_lt, nat_le}
use Rattle.std.specs.List.{list_all}
use Rattle.std.specs.Char.{is_ascii_digit, digit_value}
use Rattle.std.specs.Str.Parse.{digits_value}
use Rattle.std.proofs.lemmas.Bool.Decides.{nat_tests}
use Rattle.std.proofs.lemmas.Int.Digits.{digits_value_more}
use Rattle.std.proofs.lemmas.Str.Parse.{digits_value-take-le}
use Rattle.game_core.specs.Numerals.{are_digits, number_up_to}
use Rattle.game_core.proofs.Numerals.{parts}

numeral_parts : (value : List ℕ) → are_digits value ≡ true → (0 < length value) × (list_all is_ascii_digit value ≡ true)
numeral_parts value e =
    let both = parts (nat_lt 0 (length value)) (list_all is_ascii_digit value) e in
    let some : nat_lt 0 (length value) ≡ true = both.0 in
    (grind (arith, nat_tests), both.1)

digit_at : (digits : List ℕ) (i : ℕ) → list_all is_ascii_digit digits ≡ true → i < length digits → is_ascii_digit (get_or digits i 0) ≡ true
digit_at [] i e within = absurd (omega arith)
digit_at (x ∷ xs) zero e within = (parts (is_ascii_digit x) (list_all is_ascii_digit xs) e).0
digit_at (x ∷ xs) (suc i) e within = digit_at xs i (parts (is_ascii_digit x) (list_all is_ascii_digit xs) e).1 (omega arith)

digit_less : (b : ℕ) → is_ascii_digit b ≡ true → b - 48 ≡ digit_value b
digit_less b e = grind (arith, nat_tests)

pub next_number : (digits : List ℕ) (i n r : ℕ) → are_digits digits ≡ true → i < length digits → n ≡ digits_value 10 (take i digits)
    → r ≡ get_or digits i 0 - 48 → n * 10 + r ≡ digits_value 10 (take (i + 1) digits)
next_number digits i n r e within so_far more =
    let last : r ≡ digit_value (get_or digits i 0) = more ∙ digit_less (get_or digits i 0) (digit_at digits i (numeral_parts digits e).1 within) in
    (λ j. so_far j * 10 + last j) ∙ sym (digits_value_more 10 digits i within)

-- if the number read so far exceeds the limit, the whole number exceeds it too
pub too_great : (digits : List ℕ) (i n limit : ℕ) → n ≡ digits_value 10 (take i digits) → limit < n
    → None ≡ number_up_to digits limit
too_great digits i n limit so_far above =
    let least = digits_value-take-le 10 digits i (omega arith) in
    let great : limit < digits_value 10 digits = omega arith in
    let test : nat_le (digits_value 10 digits) limit ≡ false = grind (arith, nat_tests) in
    rw test refl
