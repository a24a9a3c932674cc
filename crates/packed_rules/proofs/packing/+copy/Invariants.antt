use Rattle.std.proofs.Common.{◌≡◌, map, take}
use Rattle.ground_rules.specs.Numbered.{view}
use Rattle.packed_rules.proofs.packing.+copy.Given as goal

abbrev pub invariant-copy_all-loop-literal : goal.invariant-copy_all-loop-literal
invariant-copy_all-loop-literal l = map view l.copies.items ≡ map view (take l.literal-index l.literal-items)
