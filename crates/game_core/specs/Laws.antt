-- Laws about the decimal texts of numbers.
use Rattle.std.specs.Prelude.{◌≡◌, ◌↔◌, ℕ, ◌<◌, ◌≤◌, ◌^◌, true, List, Some}
use Rattle.std.specs.Fmt.{decimal}
use Rattle.std.specs.Str.Parse.{digits_value}
use Rattle.game_core.specs.Expression.{IsAtom}
use Rattle.game_core.specs.Numerals.{is_plain_numeral, plain_number}

abbrev pub NumbersAreAtoms : Type 0
NumbersAreAtoms = (n : ℕ) → n < 2 ^ 64 → IsAtom (decimal n)

abbrev pub NumbersArePlain : Type 0
NumbersArePlain = (n : ℕ) → n < 2 ^ 64 → (is_plain_numeral (decimal n) ≡ true) × (digits_value 10 (decimal n) ≡ n)

-- a word is read as a number up to a limit if and only if the number is within the limit and the word is the decimal text of the number
abbrev pub NumbersReadBack : Type 0
NumbersReadBack = (word : List ℕ) (n limit : ℕ) → limit < 2 ^ 64 → (plain_number word limit ≡ Some n) ↔ ((n ≤ limit) × (word ≡ decimal n))
