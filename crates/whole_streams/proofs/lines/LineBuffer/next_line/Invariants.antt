use Rattle.std.proofs.Common.{◌≡◌, ◌≤◌, ◌++◌, [], ℕ, List, length}
use Rattle.std.specs.Io.KnownBytes.{Consumes}
use Rattle.game_core.specs.Counting.{CallsMade}
use Rattle.whole_streams.specs.Lines.{HasNoLineFeed}
use Rattle.whole_streams.proofs.lines.LineBuffer.next_line.Given as goal

abbrev pub invariant-loop-call : goal.invariant-loop-call
invariant-loop-call g l = record {
  given : (given : List ℕ) × Consumes (g.R.Read.remaining l.initial.reader.stream) (g.R.Read.remaining l.reader.stream) given
      × (l.fn.self ++ given ≡ l.line.items) × (l.call ≤ length given);
  held : l.self ≡ [];
  feedless : HasNoLineFeed l.line.items;
  within : length l.line.items ≤ l.limit;
  calls : CallsMade l.call l.initial.reader.calls l.reader.calls;
  faults : l.reader.faults ≡ l.initial.reader.faults;
}
