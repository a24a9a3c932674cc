use Rattle.std.proofs.Common.{sym, subst}
use Rattle.std.proofs.lemmas.Result.{IfOk-weaker}
use Rattle.matches_to_play.specs.Done.{AreNamesOf}
use Rattle.matches_to_play.proofs.DoneNames.{done_by_parts}
use Rattle.matches_to_play.proofs.done.done_names.Goals as goal

pub returns-in-Ok : goal.returns-in-Ok
returns-in-Ok g c =
    let rules = g.G.Game.rules c.args.game.now in
    let said = c.in-Ok.ensures.parts in
    let of_line = done_by_parts rules c.lawful_parts_have_shape.ensures c.holds_one_parts_at_most.ensures c.args.line.now said.0 c.in-Ok.parts said.1 said.2 said.3 c.in-Ok.ensures.lawful in
    IfOk-weaker c.names_if_over.result _ _ (λ found is. subst (AreNamesOf rules c.args.line.now) (sym is) of_line) c.names_if_over.ensures
