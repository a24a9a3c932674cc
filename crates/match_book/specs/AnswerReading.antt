-- How a match reads the text of an answer.
use Rattle.std.specs.Prelude.{ℕ, ◌*◌, nat_le, if◌then◌else◌, List, length, Option, None, option_map}
use Rattle.game_core.specs.Expression.{folded}
use Rattle.game_core.specs.Canonical.{canonical}
use Rattle.kif_text.specs.Reading.{reading}

-- the largest number of bytes of an answer that a match reads, including white space and comments
abbrev pub max_answer : ℕ
max_answer = 4096

-- the largest number of bytes of a reading: printing at most doubles the answer
abbrev pub max_reading : ℕ
max_reading = 2 * max_answer

-- the canonical text, in lower case, of the one expression that the answer spells; None if the answer is too long or does not spell exactly
-- one expression
unfoldable pub answer_reading : List ℕ → Option (List ℕ)
answer_reading text = if nat_le (length text) max_answer then option_map (λ x. canonical (folded x)) (reading text) else None
