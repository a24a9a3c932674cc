use Rattle.std.proofs.Common.{◌+◌, subst, sym, take}
use Rattle.ggp_commands.specs.LoadedGame.{AreGamesOf}
use Rattle.ggp_commands.proofs.LoadedGames.{one_more_game}
use Rattle.ggp_commands.proofs.serving.games_of.Goals as goal

pub loop-source-preserved : goal.loop-source-preserved
loop-source-preserved g c =
    let more = one_more_game c.args.sources.now c.loop-source.source-index _ c.loop-source.games.items c.in-Ok.game c.loop-source-test.true c.loop-source.invariant c.in-Ok.ensures in
    subst (λ games. AreGamesOf (take (c.loop-source.source-index + 1) c.args.sources.now) games) (sym c.in_ok-push-in-Ok.ensures.items) more
