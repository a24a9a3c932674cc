use Rattle.std.proofs.Common.{true≢false, sym, subst, ◌∙◌}
use Rattle.record_reading.specs.RecordParts.{AreErrors}
use Rattle.record_reading.specs.RecordTree.{text_lists_tree}
use Rattle.record_reading.specs.Internal.JsonValues.{data_of}
use Rattle.record_reading.specs.Internal.Shown.{Shows, AnyShape}
use Rattle.record_reading.proofs.JsonData.{other_shape, text_lists_injective}
use Rattle.record_reading.proofs.reading.errors_in.Goals as goal

pub returns-else-branch : goal.returns-else-branch
returns-else-branch c =
    let found = data_of c.args.found in
    let shown = subst (λ o. Shows text_lists_tree AnyShape found o) c.in-Some.is c.in_ok-errors.ensures in
    let same = c.as_slice.ensures.value ∙ c.errors.view_is in
    other_shape text_lists_tree text_lists_injective (AreErrors c.args.roles) found c.in-Some.errors shown.0
    (λ shape. true≢false (sym (c.in_ok-are_errors.ensures.1 (subst (AreErrors c.args.roles) (sym same) shape)) ∙ c.if-branch.false))
