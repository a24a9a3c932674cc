use Rattle.std.proofs.Common.{◌≡◌, ◌<◌, ◌||◌, ℕ, false, length, slice_index_or, map, drop}
use Rattle.call_history.specs.Lines.{has_number}
use Rattle.call_history.proofs.gathering.note_numbers.Given as goal

-- a number is among all lines if it is noted, or is among the lines to come
abbrev pub invariant-loop-line : goal.invariant-loop-line
invariant-loop-line g l =
    let number = g.N.Numbered.number in
    (k : ℕ) → k < length l.found → (slice_index_or l.found k false || has_number k (map number (drop l.line-index l.lines))) ≡ has_number k (map number l.lines)
