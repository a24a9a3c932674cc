use Rattle.std.proofs.Common.{◌≡◌, ◌≤◌, length, drop}
use Rattle.role_workers.specs.Seats.{IsSeatOf}
use Rattle.role_workers.specs.Places.{EachAt}
use Rattle.role_workers.proofs.seats.seat_players.Given as goal

abbrev pub invariant-loop-role : goal.invariant-loop-role
invariant-loop-role g l = record {
  wires : l.wires.rest.items ≡ drop l.role l.fn.wires.items;
  players : l.players.rest.items ≡ drop l.role l.fn.players.items;
  count : length l.seats.items ≡ l.role;
  within : (l.role ≤ length l.fn.wires.items) × (l.role ≤ length l.fn.players.items);
  each : EachAt (IsSeatOf l.brief l.fn.players.items l.fn.wires.items) l.seats.items;
}
