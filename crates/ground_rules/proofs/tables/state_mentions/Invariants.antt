use Rattle.std.proofs.Common.{◌≡◌, ◌++◌, drop}
use Rattle.ground_rules.specs.Internal.Resolved.{state_mentions}
use Rattle.ground_rules.proofs.tables.state_mentions.Given as goal

abbrev pub invariant-loop-atom : goal.invariant-loop-atom
invariant-loop-atom l = l.mentions.items ++ state_mentions l.kind l.terms.keys l.atom (drop l.atom l.heads) ≡ state_mentions l.kind l.terms.keys 0 l.heads
