use Rattle.std.proofs.Common.{take}
use Rattle.ggp_commands.specs.LoadedGame.{AreGamesOf}
use Rattle.ggp_commands.proofs.serving.games_of.Given as goal

abbrev pub invariant-loop-source : goal.invariant-loop-source
invariant-loop-source g l = AreGamesOf (take l.source-index l.sources) l.games.items
