-- A printed number can be read again.
use Rattle.std.proofs.Common.{◌≡◌, ℕ, zero, suc, ◌<◌, ◌≤◌, ◌^◌, ◌==◌, ◌||◌, not, Bool, true, false, nat_lt, List, length, Some, refl, ap, arith, rules, le-leb, lt-ltb}
use Rattle.std.specs.Prelude.{slice_index}
use Rattle.std.specs.List.{list_all}
use Rattle.std.specs.Char.{is_ascii_digit}
use Rattle.std.specs.Fmt.{decimal}
use Rattle.std.specs.Str.Parse.{digits_value}
use Rattle.std.proofs.lemmas.Bool.{and_from, or_left}
use Rattle.std.proofs.lemmas.Bool.Decides.{nat_tests}
use Rattle.std.proofs.lemmas.Fmt.{decimal_digit, decimal_nonempty, digits_decimal, digits_value-decimal, first_decimal}
use Rattle.std.proofs.lemmas.Str.Parse.{IsNumeralModel, numerals_by_value}
use Rattle.game_core.specs.Numerals.{is_plain_numeral, plain_number}

abbrev AllDigits : List ℕ → Type 0
AllDigits digits = list_all is_ascii_digit digits ≡ true

digits_are_numerals : IsNumeralModel AllDigits (digits_value 10)
digits_are_numerals = numerals_by_value AllDigits (search rules)

or_right : (a b : Bool) → b ≡ true → (a || b) ≡ true
or_right true b is = refl
or_right false b is = is

above_zero : (byte : ℕ) → 48 < byte → not (byte == 48) ≡ true
above_zero byte above = grind (arith, nat_tests)

no_zero_leads : (n : ℕ) → n < 2 ^ 64 → (length (decimal n) == 1 || not (slice_index (decimal n) 0 == 48)) ≡ true
no_zero_leads zero small = or_left (length (decimal 0) == 1) (not (slice_index (decimal 0) 0 == 48)) (ap (λ digits. length digits == 1) (decimal_digit 0 (omega arith)))
no_zero_leads (suc n) small = or_right (length (decimal (suc n)) == 1) (not (slice_index (decimal (suc n)) 0 == 48)) (above_zero (slice_index (decimal (suc n)) 0) (first_decimal (suc n) (omega arith) small))

printed_is_plain : (n : ℕ) → n < 2 ^ 64 → is_plain_numeral (decimal n) ≡ true
printed_is_plain n small =
    let some = lt-ltb 0 (length (decimal n)) (decimal_nonempty n small) in
    let digits : AllDigits (decimal n) = digits_decimal digits_are_numerals n small in
    and_from _ (length (decimal n) == 1 || not (slice_index (decimal n) 0 == 48)) (and_from (nat_lt 0 (length (decimal n))) (list_all is_ascii_digit (decimal n)) some digits) (no_zero_leads n small)

pub number_read : (n most : ℕ) → n < 2 ^ 64 → n ≤ most → plain_number (decimal n) most ≡ Some n
number_read n most small within =
    let plain = printed_is_plain n small in
    let value : digits_value 10 (decimal n) ≡ n = digits_value-decimal digits_are_numerals n small in
    let test = le-leb n most within in
    rw (plain, value, test) refl
