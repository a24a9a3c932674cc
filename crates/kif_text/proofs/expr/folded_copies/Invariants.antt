use Rattle.std.proofs.Common.{◌≡◌, ◌++◌, map, drop}
use Rattle.game_core.specs.Expression.{folded}
use Rattle.kif_text.specs.View.{view}
use Rattle.kif_text.proofs.expr.folded_copies.Given as goal

abbrev pub invariant-loop-expr : goal.invariant-loop-expr
invariant-loop-expr l = map view l.copies.items ++ map folded (map view (drop l.expr-index l.exprs)) ≡ map folded (map view l.exprs)
