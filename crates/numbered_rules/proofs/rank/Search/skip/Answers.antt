use Rattle.std.proofs.Common.{◌≡◌, slice_index, arith, inl, inr}
use Rattle.numbered_rules.specs.Internal.Search.{mark}
use Rattle.numbered_rules.specs.declared.rank.Mark.TheVariants.{Done}
use Rattle.numbered_rules.proofs.Searching.{last_or, mark-read}
use Rattle.numbered_rules.proofs.rank.Search.skip.Goals as goal

pub loop-place-preserved : goal.loop-place-preserved
loop-place-preserved c =
    λ i ge lt.
    let here : mark c.args.self.now.marks.items (slice_index c.args.wants.now c.loop-place.place) ≡ Done c.in-Done.field-0 =
    mark-read c.args.self.now.marks.items _ c.index.result.now _ (c.requires.graph c.loop-place.place (omega arith)) c.index.ensures c.in-Done.is in
    elim (last_or i c.loop-place.place lt) [ inl h ↦ c.loop-place.invariant i ge h | inr e ↦ rw e (c.in-Done.field-0, here) ]
