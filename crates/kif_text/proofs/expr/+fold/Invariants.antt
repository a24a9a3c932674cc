use Rattle.std.proofs.Common.{◌≡◌, ◌++◌, map, take, drop}
use Rattle.game_core.specs.Expression.{folded}
use Rattle.kif_text.specs.View.{view}
use Rattle.kif_text.proofs.expr.+fold.Given as goal

abbrev pub invariant-fold_all-loop-i : goal.invariant-fold_all-loop-i
invariant-fold_all-loop-i l = record {
  unvisited : goal.unvisited-fold_all-loop-i l;
  done : map view l.members.items ≡ map folded (take l.i (map view l.fn.members.items)) ++ drop l.i (map view l.fn.members.items);
}
