use Rattle.std.proofs.Common.{take}
use Rattle.match_season.specs.Queues.{StandUp}
use Rattle.match_season.proofs.queue.unseat_all.Given as goal

abbrev pub invariant-loop-player : goal.invariant-loop-player
invariant-loop-player l = StandUp l.initial.sitting l.sitting (take l.player-index l.players)
