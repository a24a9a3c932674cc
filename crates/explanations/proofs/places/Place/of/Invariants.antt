use Rattle.std.proofs.Common.{◌≡◌, ◌≤◌, ◌+◌, drop}
use Rattle.explanations.specs.Places.{line_after, column_after}
use Rattle.explanations.proofs.places.Place.of.Given as goal

abbrev pub invariant-loop-byte : goal.invariant-loop-byte
invariant-loop-byte l = record {
  line : line_after l.line (drop l.byte-index l.before) ≡ line_after 1 l.before;
  column : column_after l.column (drop l.byte-index l.before) ≡ column_after 1 l.before;
  few_lines : l.line ≤ l.byte-index + 1;
  few_columns : l.column ≤ l.byte-index + 1;
}
