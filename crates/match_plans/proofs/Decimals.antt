-- Reading numbers in words.
use Rattle.std.proofs.Common.{◌≡◌, ℕ, ◌<◌, ◌≤◌, ◌^◌, ◌∙◌, true, false, leb, ltb, List, Option, Some, None, Result, Ok, Err, length, refl, sym, ap, subst, inl, inr, arith, le-leb, leb-true, ltb-true}
use Rattle.std.specs.Char.{is_ascii_digit}
use Rattle.std.specs.List.{list_all}
use Rattle.std.specs.Str.Parse.{ParsesUnsigned, digits_value}
use Rattle.std.proofs.lemmas.Bool.{and_from, and_parts, cases_lt, cond-true, cond-false, lt-leb}
use Rattle.std.proofs.lemmas.Str.Parse.{IsDigitsTest, IsNumeralModel, numerals_by_value, parse_digits}
use Rattle.game_core.specs.Numerals.{are_digits, number_up_to}
use Rattle.match_plans.specs.Numbers.{at_least, decimal_of}

digits_test : IsDigitsTest (λ ds. list_all is_ascii_digit ds ≡ true)
digits_test = record {
  empty = refl;
  parts = λ c cs e.
      let more = and_parts (is_ascii_digit c) (list_all is_ascii_digit cs) e in
      let here = and_parts (leb 48 c) (leb c 57) more.0 in
      ((leb-true 48 c here.0, leb-true c 57 here.1), more.1);
  more = λ c cs here more. and_from (is_ascii_digit c) (list_all is_ascii_digit cs) (and_from (leb 48 c) (leb c 57) (le-leb 48 c here.0) (le-leb c 57 here.1)) more;
}

by_digits : IsNumeralModel (λ ds. list_all is_ascii_digit ds ≡ true) (digits_value 10)
by_digits = numerals_by_value (λ ds. list_all is_ascii_digit ds ≡ true) digits_test

all-digits : (text : List ℕ) (limit : ℕ) → are_digits text ≡ true → decimal_of text limit ≡ number_up_to text limit
all-digits text limit digits = cond-true (are_digits text) (number_up_to text limit) None digits

too-large : (text : List ℕ) (limit : ℕ) → are_digits text ≡ true → limit < digits_value 10 text → None ≡ decimal_of text limit
too-large text limit digits large = sym (all-digits text limit digits ∙ cond-false (leb (digits_value 10 text) limit) (Some (digits_value 10 text)) None (lt-leb (digits_value 10 text) limit large))

-- the number that `parse` reads in digits, if it is within the limit
pub number-read : {E : Type 0} (text : List ℕ) (limit number : ℕ) (r : Result ℕ E) → ParsesUnsigned 64 10 text r → r ≡ Ok number → are_digits text ≡ true → number ≤ limit → Some number ≡ decimal_of text limit
number-read {E} text limit number r reads is digits within =
    let all = (and_parts (ltb 0 (length text)) (list_all is_ascii_digit text) digits).1 in
    let value : number ≡ digits_value 10 text = (parse_digits by_digits {E = E} 64 text (Ok number) (subst (ParsesUnsigned 64 10 text) is reads) all).1 in
    ap Some value ∙ sym (all-digits text limit digits ∙ cond-true (leb (digits_value 10 text) limit) (Some (digits_value 10 text)) None (le-leb (digits_value 10 text) limit (omega (arith, value, within))))

pub number-refused : {E : Type 0} (text : List ℕ) (limit : ℕ) (e : E) (r : Result ℕ E) → ParsesUnsigned 64 10 text r → r ≡ Err e → are_digits text ≡ true → limit < 2 ^ 64 → None ≡ decimal_of text limit
number-refused text limit e r reads is digits small =
    let parts = and_parts (ltb 0 (length text)) (list_all is_ascii_digit text) digits in
    let none = parse_digits by_digits 64 text (Err e) (subst (ParsesUnsigned 64 10 text) is reads) parts.1 in
    elim (cases_lt (digits_value 10 text) (2 ^ 64)) [
      | inl fits ↦ absurd (none (ltb-true 0 (length text) parts.0, fits))
      | inr past ↦ too-large text limit digits (omega (arith, small, past))
    ]
