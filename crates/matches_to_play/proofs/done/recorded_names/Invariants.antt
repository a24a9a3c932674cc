use Rattle.std.proofs.Common.{◌≡◌, ◌++◌, drop}
use Rattle.matches_to_play.specs.Done.{joined}
use Rattle.matches_to_play.proofs.done.recorded_names.Given as goal

abbrev pub invariant-loop-player : goal.invariant-loop-player
invariant-loop-player l = l.names.items ++ joined (drop l.player-index l.parts.players) ≡ l.initial.names.items ++ joined l.parts.players
