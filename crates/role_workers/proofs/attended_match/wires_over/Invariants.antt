use Rattle.std.proofs.Common.{◌≡◌, ◌++◌, map}
use Rattle.std.specs.Vec.Iter.{into_iter_items}
use Rattle.role_workers.proofs.attended_match.wires_over.Given as goal

abbrev pub invariant-loop-line : goal.invariant-loop-line
invariant-loop-line g l = map (λ w. w.line) l.wires.items ++ into_iter_items l.line-iterator ≡ l.fn.lines.items
