use Rattle.std.proofs.Common.{◌≡◌, ◌++◌, drop, map}
use Rattle.std.specs.Cow.{cow_slice_items}
use Rattle.ground_rules.specs.Lookups.{picked}
use Rattle.ground_rules.proofs.lookups.pick.Given as goal

abbrev pub invariant-loop-term : goal.invariant-loop-term
invariant-loop-term l = map cow_slice_items l.found.items ++ picked (drop l.term l.row) (drop l.term l.texts) ≡ picked l.row l.texts
