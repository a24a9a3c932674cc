use Rattle.std.proofs.Common.{map, drop}
use Rattle.ground_rules.specs.Numbered.{view}
use Rattle.packed_rules.proofs.PackedPasses.{SaysSoFar}
use Rattle.packed_rules.proofs.packing.pack_rule.Given as goal

abbrev pub invariant-loop-literal : goal.invariant-loop-literal
invariant-loop-literal l = SaysSoFar l.terms l.moves.items l.tests.items (map view l.others.items) (map view (drop l.literal-index l.literal-items)) (map view l.literal-items)
