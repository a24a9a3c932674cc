use Rattle.std.proofs.Common.{List, ℕ, ◌+◌, get_or, take, refl, sym, subst}
use Rattle.match_season.specs.Queues.{StandUp}
use Rattle.match_season.proofs.Sitting.{stand-none, stand-more}
use Rattle.match_season.proofs.queue.unseat_all.Goals as goal

pub loop-player-init : goal.loop-player-init
loop-player-init c = stand-none c.args.sitting.now c.args.players.now

pub loop-player-preserved : goal.loop-player-preserved
loop-player-preserved c =
    let players = c.args.players.now in
    let at = c.loop-player.player-index in
    subst (λ (now : List ℕ). StandUp c.args.sitting.now now (take (at + 1) players)) (sym c.unseat.ensures)
    (stand-more c.args.sitting.now c.loop-player.sitting players at (get_or players at 0) c.loop-player-test.true refl c.loop-player.invariant)
