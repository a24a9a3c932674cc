use Rattle.std.proofs.Common.{refl, arith}
use Rattle.role_workers.proofs.SeatEnds.{left_at}
use Rattle.role_workers.proofs.seats.fn.attend_all.scope.Goals as goal

pub returns : goal.returns
returns g c =
    let promised = c.in_ok-handles.ensures.promised in
    record {
      own = refl;
      count = omega (arith, c.in_ok-attended-2.ensures.count, c.in_ok-handles.ensures.count, c.if-started-count.false, c.len-started.ensures, c.len-count.ensures);
      left = λ k left is.
          let kept = c.in_ok-attended-2.ensures.kept k left is in
          left_at g.W.Wire g.P.Player c.captures.tries c.captures.seats.items k kept.handle.promise left (promised k kept.handle kept.is_handle) kept.left_by;
    }
