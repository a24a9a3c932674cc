use Rattle.std.proofs.Common.{◌≡◌, drop}
use Rattle.ground_rules.specs.Internal.Barred.{has_barred}
use Rattle.ground_rules.proofs.loading.has_barred.Given as goal

abbrev pub invariant-loop-atom : goal.invariant-loop-atom
invariant-loop-atom l = has_barred l.on_moves l.on_given l.atom (drop l.atom l.heads) ≡ has_barred l.on_moves l.on_given 0 l.heads
