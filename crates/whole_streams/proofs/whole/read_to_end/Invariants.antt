use Rattle.std.proofs.Common.{◌≡◌, ◌≤◌, length}
use Rattle.std.specs.Io.KnownBytes.{Consumes}
use Rattle.game_core.specs.Counting.{CallsMade}
use Rattle.whole_streams.proofs.whole.read_to_end.Given as goal

abbrev pub invariant-loop-call : goal.invariant-loop-call
invariant-loop-call g l = record {
  given : Consumes (g.R.Read.remaining l.initial.reader.stream) (g.R.Read.remaining l.reader.stream) l.input.items;
  within : length l.input.items ≤ l.limit;
  each : l.call ≤ length l.input.items;
  calls : CallsMade l.call l.initial.reader.calls l.reader.calls;
  faults : l.reader.faults ≡ l.initial.reader.faults;
}
