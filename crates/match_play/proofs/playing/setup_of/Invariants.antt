use Rattle.std.proofs.Common.{◌≡◌, map, take}
use Rattle.match_play.proofs.playing.setup_of.Given as goal

abbrev pub invariant-loop-player : goal.invariant-loop-player
invariant-loop-player l = l.items.items ≡ map (λ p. p.name.now) (take l.player-index l.plan.players.items)
