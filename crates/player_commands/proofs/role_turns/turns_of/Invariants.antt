use Rattle.std.proofs.Common.{◌≡◌, length}
use Rattle.role_workers.specs.Places.{EachAt}
use Rattle.player_commands.specs.RoleTurns.{IsTurnOf}
use Rattle.player_commands.proofs.role_turns.turns_of.Given as goal

abbrev pub invariant-loop-turn : goal.invariant-loop-turn
invariant-loop-turn g l = record {
  count : length l.turns.items ≡ l.turn;
  each : EachAt (IsTurnOf (g.G.Game.rules l.game) l.held.value.turns l.role) l.turns.items;
}
