use Rattle.std.proofs.Common.{ℕ, ◌<◌, get_or}
use Rattle.call_history.specs.RingLines.{SamePorts}
use Rattle.call_history.specs.Rounds.{ServesLines}
use Rattle.call_history.specs.RingClosing.{TakesPrefix, SameEnds}
use Rattle.call_history.proofs.ReturnedEnds.{Compared}
use Rattle.call_history.proofs.comparing.lowest_unserved.Given as goal

abbrev pub invariant-loop-k : goal.invariant-loop-k
invariant-loop-k g l = record {
  serves : ServesLines l.journal.history l.ports.items;
  ports : SamePorts l.initial.ports.items l.ports.items;
  ends : SameEnds l.initial.ends.items l.ends.items;
  replies : (i : ℕ) (e : _) → i < l.k → TakesPrefix l.journal.history (get_or l.ends.items i e);
  calls : Compared l.journal.history l.ends.items l.k l.lowest;
}
