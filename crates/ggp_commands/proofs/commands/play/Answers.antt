use Rattle.std.proofs.Common.{rules, inl, inr}
use Rattle.std.proofs.lemmas.Result.{IfErr-weaker, on_ok_weaker}
use Rattle.ggp_commands.specs.LoadedGame.{IsLoadedGame}
use Rattle.ggp_commands.specs.Tasks.{ReadsInput}
use Rattle.ggp_commands.proofs.TaskEnds.{ends_or_fails, ends_well}
use Rattle.ggp_commands.proofs.commands.play.Goals as goal

pub returns-clause-played : goal.returns-clause-played
returns-clause-played g c =
    let game = c.playable.result in
    let playable : IsLoadedGame c.args.plan.now game.game.now game.rules.now = search rules in
    let read : ReadsInput g.R.Read.remaining c.args.task.now c.deref.result.now c.args.reader.now c.prepared.new.reader = search rules in
    let whole = ends_well _ c.play_with_reports-held.result.0 c.task_end.result c.task_end.ensures.all c.play_with_reports-held.ensures.written in
    on_ok_weaker c.task_end.result (λ written. (game, c.deref.result.now, playable, read, written)) whole

pub returns-clause-at_fault : goal.returns-clause-at_fault
returns-clause-at_fault g c =
    let game = c.playable.result in
    let playable : IsLoadedGame c.args.plan.now game.game.now game.rules.now = search rules in
    let read : ReadsInput g.R.Read.remaining c.args.task.now c.deref.result.now c.args.reader.now c.prepared.new.reader = search rules in
    let ends = ends_or_fails _ _ c.args.task.now c.play_with_reports-held.result.0 c.task_end.result c.task_end.ensures.some c.task_end.ensures.fault c.play_with_reports-held.ensures.written c.play_with_reports-held.ensures.at_fault in
    IfErr-weaker c.task_end.result _ _ (λ fault it. inr (elim it [
      | inl some ↦ inl (some.0, some.1, some.2, (game, c.deref.result.now, playable, read, some.3))
      | inr ended ↦ inr (game, c.deref.result.now, playable, read, ended)
    ])) ends
