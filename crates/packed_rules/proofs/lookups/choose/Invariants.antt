use Rattle.std.proofs.Common.{◌≡◌, ◌++◌, drop}
use Rattle.ground_rules.specs.Lookups.{chosen}
use Rattle.packed_rules.proofs.lookups.choose.Given as goal

abbrev pub invariant-loop-head : goal.invariant-loop-head
invariant-loop-head l = l.moves.items ++ chosen l.state.kept (drop l.head-index l.heads) ≡ chosen l.state.kept l.heads
