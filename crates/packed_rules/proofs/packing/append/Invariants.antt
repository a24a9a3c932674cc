use Rattle.std.proofs.Common.{◌≡◌, ◌++◌}
use Rattle.packed_rules.proofs.packing.append.Given as goal

abbrev pub invariant-loop-item : goal.invariant-loop-item
invariant-loop-item g l = l.into.items ≡ l.initial.into.items ++ l.yielded
