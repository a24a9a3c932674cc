-- Members of a list of expressions.
use Rattle.std.specs.Prelude.{ℕ, zero, suc}
use Rattle.game_core.specs.Expression.{Expressions, none, more}

abbrev pub without_first : ℕ → Expressions → Expressions
without_first zero xs = xs
without_first (suc n) none = none
without_first (suc n) (more x xs) = without_first n xs
