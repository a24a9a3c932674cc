-- The expression that an `Expr` represents.
use Rattle.std.specs.Prelude.{List, [], ◌∷◌, map}
use Rattle.game_core.specs.Expression.{Expression, atom, list, Expressions, none, more}
use Rattle.kif_text.specs.declared.expr.Expr.{Expr, fold-Expr}
use Rattle.kif_text.specs.declared.expr.Expr.TheOpen.{Expr-F}

abbrev pub expressions : List Expression → Expressions
expressions [] = none
expressions (x ∷ xs) = more x (expressions xs)

-- one level of an `Expr`; its members are already converted to expressions
abbrev pub view_step : Expr-F Expression → Expression
view_step (Expr-F.Atom text) = atom text
view_step (Expr-F.List members) = list (expressions members.items)

abbrev pub view : Expr → Expression
view = fold-Expr Expression view_step

abbrev pub views : List Expr → Expressions
views xs = expressions (map view xs)
