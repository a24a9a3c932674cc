use Rattle.std.proofs.Common.{◌≡◌, ◌++◌, drop, map}
use Rattle.std.specs.Cow.{cow_slice_items}
use Rattle.ground_rules.specs.Lookups.{picked}
use Rattle.packed_rules.proofs.lookups.pick.Given as goal

abbrev pub invariant-loop-term : goal.invariant-loop-term
invariant-loop-term l = map cow_slice_items l.found.items ++ picked (drop l.term l.state.row) (drop l.term l.texts) ≡ picked l.state.row l.texts
