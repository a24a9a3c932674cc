use Rattle.std.proofs.Common.{◌≡◌, drop}
use Rattle.packed_rules.specs.Bits.{bits_of}
use Rattle.packed_rules.specs.Internal.PlacedRules.{AreTestsCut}
use Rattle.packed_rules.specs.Internal.PackedPass.{tests_after}
use Rattle.packed_rules.proofs.passing.sweep_tests.Given as goal

abbrev pub invariant-loop-rule : goal.invariant-loop-rule
invariant-loop-rule l = record {
  cut : AreTestsCut (drop l.rule-index l.rules) l.left;
  after : tests_after l.terms (bits_of l.words l.size) (drop l.rule-index l.rules) l.left ≡ tests_after l.terms (bits_of l.initial.words l.size) l.rules l.tests;
}
