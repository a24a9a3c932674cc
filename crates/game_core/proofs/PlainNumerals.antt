-- A plain numeral is the printed number, and a printed number is a plain numeral.
use Rattle.std.proofs.Common.{◌≡◌, ℕ, zero, suc, ◌<◌, ◌^◌, ◌||◌, ◌==◌, not, Bool, true, false, nat_le, List, length, refl, sym, ap, arith, rules}
use Rattle.std.specs.Prelude.{slice_index}
use Rattle.std.specs.List.{list_all}
use Rattle.std.specs.Char.{is_ascii_digit}
use Rattle.std.specs.Fmt.{decimal}
use Rattle.std.specs.Str.Parse.{digits_value}
use Rattle.std.proofs.lemmas.Bool.Decides.{nat_tests}
use Rattle.std.proofs.lemmas.Fmt.{decimal-digits_value, decimal_is_IsNumeral, first_decimal, decimal_digit}
use Rattle.std.proofs.lemmas.Str.Parse.{IsNumeralModel, numerals_by_value}
use Rattle.game_core.specs.Numerals.{is_plain_numeral}
use Rattle.game_core.proofs.Numerals.{both, decimal_is_digits, is_some, no_zero, parts}

abbrev AllDigits : List ℕ → Type 0
AllDigits ds = list_all is_ascii_digit ds ≡ true

digits_are_numerals : IsNumeralModel AllDigits (digits_value 10)
digits_are_numerals = numerals_by_value AllDigits (search rules)

leads_alone : (n b : ℕ) → (n == 1 || not (b == 48)) ≡ true → b ≡ 48 → n ≡ 1
leads_alone n b plain is_zero = grind (arith, nat_tests)

pub plain_is_decimal : (ds : List ℕ) → is_plain_numeral ds ≡ true → digits_value 10 ds < 2 ^ 64 → ds ≡ decimal (digits_value 10 ds)
plain_is_decimal ds plain small =
    let p = parts _ (length ds == 1 || not (slice_index ds 0 == 48)) plain in
    let q = parts _ (list_all is_ascii_digit ds) p.0 in
    sym (decimal-digits_value digits_are_numerals ds q.1 (grind (arith, nat_tests, q.0)) (leads_alone (length ds) (slice_index ds 0) p.1) small)

either_left : (a b : Bool) → a ≡ true → (a || b) ≡ true
either_left a b is = rw is refl

either_right : (a b : Bool) → b ≡ true → (a || b) ≡ true
either_right true b is = refl
either_right false b is = is

plain_first : (n : ℕ) → n < 2 ^ 64 → (length (decimal n) == 1 || not (slice_index (decimal n) 0 == 48)) ≡ true
plain_first zero small = either_left (length (decimal 0) == 1) (not (slice_index (decimal 0) 0 == 48)) (ap (λ ds. length ds == 1) (decimal_digit 0 (omega arith)))
plain_first (suc n) small = either_right (length (decimal (suc n)) == 1) (not (slice_index (decimal (suc n)) 0 == 48)) (no_zero (slice_index (decimal (suc n)) 0) (first_decimal (suc n) (omega arith) small))

pub decimal_is_plain : (n : ℕ) → n < 2 ^ 64 → is_plain_numeral (decimal n) ≡ true
decimal_is_plain n small =
    let ds = decimal_is_digits n small in
    both _ (length (decimal n) == 1 || not (slice_index (decimal n) 0 == 48)) (both _ (list_all is_ascii_digit (decimal n)) (is_some (length (decimal n)) ds.some) ds.digits) (plain_first n small)

pub decimal_value : (n : ℕ) → n < 2 ^ 64 → digits_value 10 (decimal n) ≡ n
decimal_value n small = (decimal_is_IsNumeral n small).1
