use Rattle.std.proofs.Common.{◌≡◌, ℕ, ◌≤◌, length, get_or}
use Rattle.call_history.specs.RingLines.{SamePorts}
use Rattle.call_history.specs.Rounds.{ServesLines, Gains, Visits}
use Rattle.call_history.proofs.serving.serve_round.Given as goal

abbrev pub invariant-loop-i : goal.invariant-loop-i
invariant-loop-i g l = record {
  serves : ServesLines l.journal.history l.ports.items;
  same : SamePorts l.initial.ports.items l.ports.items;
  most : l.journal.most ≡ l.initial.journal.most;
  within : length l.journal.history ≤ l.journal.most;
  opening : g.O.Object.opening l.journal.object ≡ g.O.Object.opening l.initial.journal.object;
  few : l.served ≤ l.i;
  gains : Gains l.initial.journal.history l.journal.history l.i l.served;
  visits : Visits l.initial.journal.history l.journal.history l.initial.ports.items l.ports.items l.i;
  rest : (j : ℕ) (p : _) → l.i ≤ j → get_or l.ports.items j p ≡ get_or l.initial.ports.items j p;
}
