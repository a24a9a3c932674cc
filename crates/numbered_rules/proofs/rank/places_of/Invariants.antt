use Rattle.std.proofs.Common.{ℕ, ◌<◌, ◌≡◌, length, slice_index}
use Rattle.numbered_rules.specs.Internal.Search.{mark}
use Rattle.numbered_rules.specs.declared.rank.Mark.TheVariants.{Done}
use Rattle.numbered_rules.proofs.rank.places_of.Given as goal

abbrev pub invariant-loop-seen : goal.invariant-loop-seen
invariant-loop-seen l = record {
  wide : length l.places.items ≡ l.seen-index;
  each : (n : ℕ) → n < l.seen-index → mark l.marks n ≡ Done (slice_index l.places.items n);
}
