use Rattle.std.proofs.Common.{◌≡◌, ◌≤◌}
use Rattle.game_commands.proofs.OpenMatches.{open_before}
use Rattle.game_commands.proofs.replaying.open_matches.Given as goal

abbrev pub invariant-loop-place : goal.invariant-loop-place
invariant-loop-place g l = record {
  counted : l.count ≡ open_before g.G.Game.rules l.manager l.place;
  few : l.count ≤ l.place;
}
