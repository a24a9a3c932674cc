use Rattle.std.proofs.Common.{◌≡◌, ◌+◌, length, drop}
use Rattle.std.specs.Vec.Iter.{into_iter_items, into_iter_len}
use Rattle.role_workers.specs.Internal.Promises.{ArePromisedFor}
use Rattle.role_workers.proofs.seats.start_seats.Given as goal

abbrev pub invariant-loop-seat : goal.invariant-loop-seat
invariant-loop-seat g l = record {
  rest : into_iter_items l.seat-iterator ≡ drop (length l.handles.items) l.fn.seats.items;
  left : into_iter_len l.seat-iterator + length l.handles.items ≡ length l.fn.seats.items;
  each : ArePromisedFor l.tries l.fn.seats.items l.handles.items;
}
