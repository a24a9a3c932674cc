use Rattle.std.proofs.Common.{◌≡◌, length, map, take}
use Rattle.role_workers.proofs.seats.roles_of.Given as goal

abbrev pub invariant-loop-seat : goal.invariant-loop-seat
invariant-loop-seat g l = record {
  count : length l.roles.items ≡ l.seat-index;
  roles : l.roles.items ≡ map (λ s. record { brief = s.brief; role = s.role }) (take l.seat-index l.seats);
}
