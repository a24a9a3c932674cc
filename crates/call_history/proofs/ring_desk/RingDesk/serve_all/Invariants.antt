use Rattle.std.proofs.Common.{◌≡◌, ◌-◌, length}
use mathlib.Core.List.{IsPrefix}
use Rattle.call_history.specs.RingLines.{SamePorts}
use Rattle.call_history.proofs.ring_desk.RingDesk.serve_all.Given as goal

abbrev pub invariant-loop : goal.invariant-loop
invariant-loop g l = record {
  lines : SamePorts l.initial.self.ports l.self.ports;
  most : l.self.journal.most ≡ l.initial.self.journal.most;
  opening : g.O.Object.opening l.self.journal.object ≡ g.O.Object.opening l.initial.self.journal.object;
  history : IsPrefix l.initial.self.journal.history l.self.journal.history;
}

abbrev pub decreases-loop : goal.decreases-loop
decreases-loop g l = l.self.journal.most - length l.self.journal.history
