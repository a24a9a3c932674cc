use Rattle.std.proofs.Common.{◌≡◌, ◌+◌, length, drop}
use Rattle.std.specs.Vec.Iter.{into_iter_items, into_iter_len}
use Rattle.role_workers.specs.Internal.Promises.{IsKept}
use Rattle.role_workers.specs.Places.{EachAt}
use Rattle.role_workers.proofs.seats.join_seats.Given as goal

abbrev pub invariant-loop-handle : goal.invariant-loop-handle
invariant-loop-handle g l = record {
  rest : into_iter_items l.handle-iterator ≡ drop (length l.attended.items) l.fn.handles.items;
  left : into_iter_len l.handle-iterator + length l.attended.items ≡ length l.fn.handles.items;
  each : EachAt (IsKept g.W.Wire g.P.Player l.fn.handles.items) l.attended.items;
}
