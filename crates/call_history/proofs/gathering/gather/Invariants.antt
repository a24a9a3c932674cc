use Rattle.std.proofs.Common.{◌≡◌, length}
use Rattle.std.specs.Vec.Iter.{into_iter_items, into_iter_len}
use Rattle.call_history.proofs.ReturnedLines.{IsGathering}
use Rattle.call_history.proofs.gathering.gather.Given as goal

abbrev pub invariant-loop-line : goal.invariant-loop-line
invariant-loop-line g l = record {
  can_next : (goal.iterator-loop-line g).can_next l.line-iterator;
  is_finite : (goal.iterator-loop-line g).is_finite l.line-iterator;
  len : into_iter_len l.line-iterator ≡ length (into_iter_items l.line-iterator);
  so_far : IsGathering l.fn.lines.items (into_iter_items l.line-iterator) l.awaited l.made_by_line l.gathered.parts l.gathered.amount;
}
