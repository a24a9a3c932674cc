use Rattle.std.proofs.Common.{◌≡◌, ◌++◌, drop}
use Rattle.ground_rules.specs.Internal.Resolved.{goal_heads}
use Rattle.ground_rules.proofs.tables.goal_heads.Given as goal

abbrev pub invariant-loop-atom : goal.invariant-loop-atom
invariant-loop-atom l = l.goals.items ++ goal_heads l.role l.atom (drop l.atom l.heads) ≡ goal_heads l.role 0 l.heads
