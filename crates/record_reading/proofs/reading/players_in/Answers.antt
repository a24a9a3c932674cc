use Rattle.std.proofs.Common.{true≢false, sym, subst, ◌∙◌}
use Rattle.record_reading.specs.RecordParts.{ArePlayers}
use Rattle.record_reading.specs.RecordTree.{texts_tree}
use Rattle.record_reading.specs.Internal.JsonValues.{data_of}
use Rattle.record_reading.specs.Internal.Shown.{Shows, AnyShape}
use Rattle.record_reading.proofs.JsonData.{other_shape, texts_injective}
use Rattle.record_reading.proofs.reading.players_in.Goals as goal

pub returns-else-are_players : goal.returns-else-are_players
returns-else-are_players c =
    let found = data_of c.args.found in
    let shown = subst (λ o. Shows texts_tree AnyShape found o) c.in-Some.is c.in_ok-players.ensures in
    let same = c.as_slice.ensures in
    other_shape texts_tree texts_injective (ArePlayers c.args.roles) found c.in-Some.players shown.0
    (λ shape. true≢false (sym (c.are_players.ensures.1 (subst (ArePlayers c.args.roles) (sym same) shape)) ∙ c.if-are_players.false))
