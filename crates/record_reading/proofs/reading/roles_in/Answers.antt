use Rattle.std.proofs.Common.{◌≡◌, true≢false, sym, subst, ◌∙◌}
use Rattle.record_reading.specs.RecordParts.{each_role}
use Rattle.record_reading.specs.RecordTree.{texts_tree}
use Rattle.record_reading.specs.Internal.JsonValues.{data_of}
use Rattle.record_reading.specs.Internal.Shown.{Shows, AnyShape}
use Rattle.record_reading.proofs.JsonData.{other_shape, texts_injective}
use Rattle.record_reading.proofs.reading.roles_in.Goals as goal

pub returns-else-are_role_names : goal.returns-else-are_role_names
returns-else-are_role_names g c =
    let rules = g.G.Game.rules c.args.game.now in
    let found = data_of c.args.found in
    let shown = subst (λ o. Shows texts_tree AnyShape found o) c.in-Some.is c.in_ok-names.ensures in
    other_shape texts_tree texts_injective (λ names. names ≡ each_role rules.roles rules.role_name) found c.in-Some.names shown.0
    (λ shape. true≢false (sym (c.are_role_names.ensures.1 (c.as_slice.ensures ∙ shape)) ∙ c.if-are_role_names.false))
