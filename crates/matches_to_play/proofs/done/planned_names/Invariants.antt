use Rattle.std.proofs.Common.{◌≡◌, ◌++◌, drop, map}
use Rattle.matches_to_play.specs.Done.{joined}
use Rattle.matches_to_play.proofs.done.planned_names.Given as goal

abbrev pub invariant-loop-player : goal.invariant-loop-player
invariant-loop-player l = l.names.items ++ joined (map (λ p. p.name.now) (drop l.player-index l.plan.players.items)) ≡ l.initial.names.items ++ joined (map (λ p. p.name.now) l.plan.players.items)
