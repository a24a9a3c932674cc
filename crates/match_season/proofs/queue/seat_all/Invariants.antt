use Rattle.std.proofs.Common.{take}
use Rattle.match_season.specs.Queues.{SitDown}
use Rattle.match_season.proofs.queue.seat_all.Given as goal

abbrev pub invariant-loop-player : goal.invariant-loop-player
invariant-loop-player l = SitDown l.initial.sitting l.sitting (take l.player-index l.players)
