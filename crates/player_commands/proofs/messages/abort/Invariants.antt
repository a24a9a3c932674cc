use Rattle.std.proofs.Common.{◌≡◌, None, take}
use Rattle.player_commands.specs.Lines.{TellsAnswers}
use Rattle.player_commands.proofs.messages.abort.Given as goal

abbrev pub invariant-loop-player : goal.invariant-loop-player
invariant-loop-player g l =
    l.short ≡ None → TellsAnswers l.plan.is_json (take l.player-index l.plan.players.items) l.have_answered (g.W.Write.contents l.initial.writer.stream) (g.W.Write.contents l.writer.stream)
