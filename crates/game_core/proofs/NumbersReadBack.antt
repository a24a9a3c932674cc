-- The only word that is read as a number is the decimal text of the number.
use Rattle.std.proofs.Common.{◌≡◌, ℕ, ◌<◌, ◌≤◌, ◌^◌, Bool, true, false, cond, nat_le, if◌then◌else◌, Some, None, List, refl, sym, ap, subst, ◌∙◌, arith, le-leb}
use Rattle.std.specs.Fmt.{decimal}
use Rattle.std.specs.Str.Parse.{digits_value}
use Rattle.std.proofs.lemmas.Bool.Decides.{nat_tests}
use Rattle.game_core.specs.GameTexts.{is_atom, number_is_folded}
use Rattle.game_core.specs.Numerals.{is_plain_numeral, number_up_to, plain_number}
use Rattle.game_core.specs.Laws.{NumbersAreAtoms, NumbersArePlain, NumbersReadBack}
use Rattle.game_core.proofs.PlainNumerals.{decimal_is_plain, decimal_value, plain_is_decimal}

pub numbers_are_atoms : NumbersAreAtoms
numbers_are_atoms n small = is_atom (decimal n) (number_is_folded n small)

pub numbers_are_plain : NumbersArePlain
numbers_are_plain n small = (decimal_is_plain n small, decimal_value n small)

value_is : (value limit n : ℕ) → (if nat_le value limit then Some value else None) ≡ Some n → n ≡ value
value_is value limit n is = grind (arith, nat_tests)

value_within : (value limit n : ℕ) → (if nat_le value limit then Some value else None) ≡ Some n → n ≤ limit
value_within value limit n is = grind (arith, nat_tests)

read_is_printed : (word : List ℕ) (n limit : ℕ) (b : Bool) → is_plain_numeral word ≡ b → limit < 2 ^ 64 → cond b (number_up_to word limit) None ≡ Some n → (n ≤ limit) × (word ≡ decimal n)
read_is_printed word n limit true plain small is =
    let same = value_is (digits_value 10 word) limit n is in
    let within = value_within (digits_value 10 word) limit n is in
    (within, plain_is_decimal word plain (omega (arith, same, within)) ∙ ap decimal (sym same))
read_is_printed word n limit false plain small is = absurd cc

printed_is_read : (n limit : ℕ) → limit < 2 ^ 64 → n ≤ limit → plain_number (decimal n) limit ≡ Some n
printed_is_read n limit small within =
    let below : n < 2 ^ 64 = omega arith in
    let plain = decimal_is_plain n below in
    let value : digits_value 10 (decimal n) ≡ n = decimal_value n below in
    let test = le-leb n limit within in
    rw (plain, value, test) refl

pub numbers_read_back : NumbersReadBack
numbers_read_back word n limit small = (
  λ is. read_is_printed word n limit (is_plain_numeral word) refl small is,
  λ printed. subst (λ (w : List ℕ). plain_number w limit ≡ Some n) (sym printed.1) (printed_is_read n limit small printed.0),
)
