use Rattle.std.proofs.Common.{take}
use Rattle.ground_rules.specs.Numbered.{rules_of}
use Rattle.packed_rules.specs.Internal.PlacedRules.{placed_rules, AreCut}
use Rattle.packed_rules.specs.Internal.PackedPass.{ArePacked}
use Rattle.packed_rules.proofs.packing.pack_rules.Given as goal

abbrev pub invariant-loop-rule : goal.invariant-loop-rule
invariant-loop-rule l = record {
  cut : AreCut l.sizes.items l.tests.items l.moves.items l.others.items;
  packed : ArePacked l.terms (placed_rules l.sizes.items l.tests.items l.moves.items l.others.items) (rules_of (take l.rule-index l.rules));
}
