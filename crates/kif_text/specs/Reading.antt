-- The reading of a text as a function, for definitions that compute with it. `laws::reading_is_spelling` shows that it is the one expression
-- that the text spells within the limits.
use Rattle.std.specs.Prelude.{ℕ, nat_le, List, length, Option, None, if◌then◌else◌}
use Rattle.std.specs.Result.{result_ok}
use Rattle.game_core.specs.Expression.{Expression}
use Rattle.kif_text.specs.Spelling.{max_length}
use Rattle.kif_text.specs.Machine.{read_single}

unfoldable pub reading : List ℕ → Option Expression
reading text = if nat_le (length text) max_length then result_ok (read_single text) else None
