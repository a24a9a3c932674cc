use Rattle.std.proofs.Common.{◌≡◌, ℕ, ◌<◌, length, get_or}
use Rattle.call_history.specs.Parts.{part}
use Rattle.call_history.proofs.comparing.note_made.Given as goal

abbrev pub invariant-loop-end : goal.invariant-loop-end
invariant-loop-end g l = record {
  count : length l.made_by_line.items ≡ length l.initial.made_by_line.items;
  made : (k : ℕ) (e : _) → k < l.end-index → get_or l.made_by_line.items (get_or l.end-items k e).number 0 ≡ length (part (get_or l.end-items k e).number l.journal.history);
}
