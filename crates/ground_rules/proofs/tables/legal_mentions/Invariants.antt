use Rattle.std.proofs.Common.{◌≡◌, ◌++◌, drop}
use Rattle.ground_rules.specs.Internal.Resolved.{legal_mentions}
use Rattle.ground_rules.proofs.tables.legal_mentions.Given as goal

abbrev pub invariant-loop-atom : goal.invariant-loop-atom
invariant-loop-atom l = l.mentions.items ++ legal_mentions l.terms.keys l.role l.atom (drop l.atom l.heads) ≡ legal_mentions l.terms.keys l.role 0 l.heads
