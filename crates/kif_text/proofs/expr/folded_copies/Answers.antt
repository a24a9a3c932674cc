use Rattle.std.proofs.Common.{◌≡◌, ◌∙◌, ap, map, arith}
use Rattle.std.proofs.lemmas.Grind.{common_steps}
use Rattle.game_core.specs.Expression.{folded}
use Rattle.kif_text.specs.View.{view, expressions}
use Rattle.kif_text.proofs.Folding.{all_folded-expressions}
use Rattle.kif_text.proofs.expr.folded_copies.Goals as goal

pub returns-clause-members : goal.returns-clause-members
returns-clause-members c =
    let each : map view c.loop-expr.copies.items ≡ map folded (map view c.args.exprs.now) = grind (arith, common_steps) in
    ap expressions each ∙ all_folded-expressions (map view c.args.exprs.now)
