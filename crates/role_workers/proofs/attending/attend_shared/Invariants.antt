use Rattle.std.proofs.Common.{◌≤◌}
use Rattle.role_workers.specs.Events.{telling}
use Rattle.role_workers.proofs.Workers.{Goes}
use Rattle.role_workers.proofs.attending.attend_shared.Given as goal

abbrev pub invariant-loop : goal.invariant-loop
invariant-loop g l =
    let W = g.W.Wire in
    let P = g.P.Player in
    record {
      line : W.same_line l.fn.wire l.wire;
      goes : Goes l.brief l.role l.counter (telling (W.calls l.fn.wire) (W.replies l.fn.wire) (P.handed l.fn.player)) (telling (W.calls l.wire) (W.replies l.wire) (P.handed l.player)) l.messages;
      few : l.messages ≤ l.counter;
    }
