-- Numbers in decimal digits.
use Rattle.std.specs.Prelude.{ℕ, ◌&&◌, ◌||◌, ◌==◌, nat_le, nat_lt, not, Bool, List, length, slice_index, Option, Some, None, if◌then◌else◌}
use Rattle.std.specs.List.{list_all}
use Rattle.std.specs.Char.{is_ascii_digit}
use Rattle.std.specs.Str.Parse.{digits_value}

abbrev pub digit_zero : ℕ
digit_zero = 48

-- one or more decimal digits
abbrev pub are_digits : List ℕ → Bool
are_digits word = nat_lt 0 (length word) && list_all is_ascii_digit word

-- decimal digits without leading zeros
abbrev pub is_plain_numeral : List ℕ → Bool
is_plain_numeral word = are_digits word && (length word == 1 || not (slice_index word 0 == digit_zero))

-- the number that the digits represent, if it is within the limit
abbrev pub number_up_to : List ℕ → ℕ → Option ℕ
number_up_to digits limit = if nat_le (digits_value 10 digits) limit then Some (digits_value 10 digits) else None

-- the number that the word represents, if the word has no leading zeros and the number is within the limit
abbrev pub plain_number : List ℕ → ℕ → Option ℕ
plain_number word limit = if is_plain_numeral word then number_up_to word limit else None
