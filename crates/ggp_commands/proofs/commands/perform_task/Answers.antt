use Rattle.std.proofs.Common.{refl}
use Rattle.std.proofs.lemmas.Result.{IfErr-weaker}
use Rattle.ggp_commands.proofs.TaskEnds.{ends_command}
use Rattle.ggp_commands.proofs.commands.perform_task.Goals as goal

pub returns-in-Host-clause-performed : goal.returns-in-Host-clause-performed
returns-in-Host-clause-performed g c = rw c.in-Host.is c.play.ensures.played

pub returns-in-Host-clause-at_fault : goal.returns-in-Host-clause-at_fault
returns-in-Host-clause-at_fault g c = rw c.in-Host.is c.play.ensures.at_fault

pub returns-in-Game-clause-performed : goal.returns-in-Game-clause-performed
returns-in-Game-clause-performed g c = rw c.in-Game.is c.for_game-performed.ensures.answers

pub returns-in-Game-clause-at_fault : goal.returns-in-Game-clause-at_fault
returns-in-Game-clause-at_fault g c = rw c.in-Game.is c.for_game-performed.ensures.fails

pub returns-in-Info-clause-at_fault : goal.returns-in-Info-clause-at_fault
returns-in-Info-clause-at_fault g c =
    rw c.in-Info.is (IfErr-weaker c.command_end.result _ _ (λ fault it. (refl, it))
    (ends_command _ c.info-performed.result c.command_end.result c.command_end.ensures c.info-performed.ensures.at_fault))
