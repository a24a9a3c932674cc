use Rattle.std.proofs.Common.{◌≡◌, drop}
use Rattle.packed_rules.specs.Bits.{bits_of}
use Rattle.packed_rules.specs.Internal.PackedPass.{all_pass}
use Rattle.packed_rules.proofs.passing.all_pass.Given as goal

abbrev pub invariant-loop-test : goal.invariant-loop-test
invariant-loop-test l = all_pass (bits_of l.words l.size) (drop l.test-index l.tests) ≡ all_pass (bits_of l.words l.size) l.tests
