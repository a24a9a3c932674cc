-- The loop that reads rules.
use Rattle.std.proofs.Common.{ℕ, List, map, drop, None, Some, Option}
use Rattle.game_core.specs.Expression.{Expression}
use Rattle.kif_text.specs.View.{view as expression}
use Rattle.kif_text.specs.declared.expr.Expr.{Expr}

-- the expressions that are left from this place
abbrev pub rest : ℕ → List Expr → List Expression
rest i xs = map expression (drop i xs)

-- the index that was found, or else the first one of the rest
abbrev pub first_or : Option ℕ → Option ℕ → Option ℕ
first_or (Some i) o = Some i
first_or None o = o
