use Rattle.std.proofs.Common.{Some, refl, subst}
use Rattle.std.specs.Prelude.{option_map}
use Rattle.std.proofs.lemmas.Result.{on_ok_weaker}
use Rattle.matches_to_play.specs.Done.{AreNamesOf}
use Rattle.matches_to_play.proofs.DoneLines.{done_now, done_still}
use Rattle.matches_to_play.proofs.done.DoneMatches.note.Goals as goal

pub returns-in-Ok-Some : goal.returns-in-Ok-Some
returns-in-Ok-Some g c =
    let rules = g.G.Game.rules c.args.game.now in
    let of_line = subst (λ o. AreNamesOf rules c.args.line.now (option_map (λ names. names.items) o)) c.in-Ok-Some.field-0-is c.in-Ok-Some.ensures in
    let own = c.in-Ok-Some.names.items in
    on_ok_weaker c.add.result (λ added first are names. done_now rules first c.args.line.now (Some own) of_line names (are names) own refl (added names)) c.add.ensures

pub returns-in-Ok-None : goal.returns-in-Ok-None
returns-in-Ok-None g c =
    let rules = g.G.Game.rules c.args.game.now in
    let of_line = subst (λ o. AreNamesOf rules c.args.line.now (option_map (λ names. names.items) o)) c.in-Ok-None.field-0-is c.in-Ok-None.ensures in
    λ first are names. done_still rules first c.args.line.now _ of_line names (are names) refl
