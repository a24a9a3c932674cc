use Rattle.std.proofs.Common.{List, ℕ, ◌+◌, get_or, take, refl, sym, subst}
use Rattle.match_season.specs.Queues.{SitDown}
use Rattle.match_season.proofs.Sitting.{sit-none, sit-more}
use Rattle.match_season.proofs.queue.seat_all.Goals as goal

pub loop-player-init : goal.loop-player-init
loop-player-init c = sit-none c.args.sitting.now c.args.players.now

pub loop-player-preserved : goal.loop-player-preserved
loop-player-preserved c =
    let players = c.args.players.now in
    let at = c.loop-player.player-index in
    subst (λ (now : List ℕ). SitDown c.args.sitting.now now (take (at + 1) players)) (sym c.seat.ensures)
    (sit-more c.args.sitting.now c.loop-player.sitting players at (get_or players at 0) c.loop-player-test.true refl c.loop-player.invariant)
