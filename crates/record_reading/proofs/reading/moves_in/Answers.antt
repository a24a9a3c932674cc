use Rattle.std.proofs.Common.{true≢false, sym, subst, ◌∙◌}
use Rattle.record_reading.specs.RecordParts.{AreMoves}
use Rattle.record_reading.specs.RecordTree.{text_lists_tree}
use Rattle.record_reading.specs.Internal.JsonValues.{data_of}
use Rattle.record_reading.specs.Internal.Shown.{Shows, AnyShape}
use Rattle.record_reading.proofs.JsonData.{other_shape, text_lists_injective}
use Rattle.record_reading.proofs.reading.moves_in.Goals as goal

pub returns-else-are_moves : goal.returns-else-are_moves
returns-else-are_moves c =
    let found = data_of c.args.found in
    let shown = subst (λ o. Shows text_lists_tree AnyShape found o) c.in-Some.is c.in_ok-moves.ensures in
    let same = c.as_slice.ensures.value ∙ c.moves.view_is in
    other_shape text_lists_tree text_lists_injective (AreMoves c.args.roles) found c.in-Some.moves shown.0
    (λ shape. true≢false (sym (c.are_moves.ensures.1 (subst (AreMoves c.args.roles) (sym same) shape)) ∙ c.if-are_moves.false))
