-- The clocks in a message.
use Rattle.std.specs.Prelude.{ℕ, ◌&&◌, if◌then◌else◌, List, Option, Some, None}
use Rattle.std.specs.Str.Parse.{digits_value}
use Rattle.game_core.specs.Expression.{Expression, atom, list}
use Rattle.desk_calls.specs.Names.{is_clock}
use Rattle.game_core.specs.Numerals.{is_plain_numeral}

-- the seconds in a word, if the word is a lawful clock
abbrev pub clock_of : List ℕ → Option ℕ
clock_of word = if is_plain_numeral word && is_clock (digits_value 10 word) then Some (digits_value 10 word) else None

-- the seconds in an expression, if the expression is a lawful clock
abbrev pub clock_in : Expression → Option ℕ
clock_in (atom word) = clock_of word
clock_in (list xs) = None
