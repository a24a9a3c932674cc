use Rattle.std.proofs.Common.{◌≡◌, drop}
use Rattle.packed_rules.specs.Internal.PackedPass.{all_agree}
use Rattle.packed_rules.proofs.passing.all_agree.Given as goal

abbrev pub invariant-loop-test : goal.invariant-loop-test
invariant-loop-test l = all_agree l.joint (drop l.test-index l.tests) ≡ all_agree l.joint l.tests
