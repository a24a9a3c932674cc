use Rattle.std.proofs.Common.{◌≡◌, drop}
use Rattle.packed_rules.specs.Bits.{bits_of}
use Rattle.packed_rules.specs.Internal.PlacedRules.{placed_rules, AreCut}
use Rattle.packed_rules.specs.Internal.PackedPass.{packed_after, rules_in}
use Rattle.packed_rules.proofs.passing.sweep.Given as goal

abbrev pub invariant-loop-rule : goal.invariant-loop-rule
invariant-loop-rule l = record {
  cut : AreCut (drop l.rule-index l.rule-items) l.tests l.moves l.others;
  after : packed_after l.terms l.joint (bits_of l.words l.size) (placed_rules (drop l.rule-index l.rule-items) l.tests l.moves l.others) ≡ packed_after l.terms l.joint (bits_of l.initial.words l.size) (rules_in l.table);
}
