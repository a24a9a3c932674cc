use Rattle.std.proofs.Common.{◌≡◌, ◌<◌}
use Rattle.ground_rules.specs.LoadedGame.{loaded_game}
use Rattle.packed_rules.specs.PackedGames.{tables_of}
use Rattle.player_commands.specs.Checks.{AreTurnsIn}
use Rattle.player_commands.proofs.RoleTables.{AreTold}
use Rattle.player_commands.proofs.check.check_player.Given as goal

abbrev pub invariant-loop-role : goal.invariant-loop-role
invariant-loop-role g l = record {
  faults : l.writer.faults ≡ l.initial.writer.faults;
  clear : 0 < l.role → g.S.ReportsShortages.is_clear l.reach 0;
  told : AreTold (AreTurnsIn g.row.H.Denot (g.S.Reach.is_reached l.reach) g.S.Player.Player.handed l.game l.plan) (loaded_game (tables_of l.game.game.now)) l.role l.bad (g.W.Write.contents l.initial.writer.stream) (g.W.Write.contents l.writer.stream) l.table.items;
}
