-- Numbers in words.
use Rattle.std.specs.Prelude.{ℕ, List, Option, Some, None, if◌then◌else◌, nat_le}
use Rattle.game_core.specs.Numerals.{are_digits, number_up_to}

-- the number that the decimal digits write, if it is within the limit; leading zeros are accepted
abbrev pub decimal_of : List ℕ → ℕ → Option ℕ
decimal_of text limit = if are_digits text then number_up_to text limit else None

abbrev pub at_least : ℕ → Option ℕ → Option ℕ
at_least least None = None
at_least least (Some number) = if nat_le least number then Some number else None

-- the number of a port, from 1 to 65,535
abbrev pub port_of : List ℕ → Option ℕ
port_of text = at_least 1 (decimal_of text 65535)
