use Rattle.std.proofs.Common.{◌≡◌, ◌≤◌, ◌-◌, length, take}
use Rattle.std.specs.Io.KnownBytes.{Appends}
use Rattle.whole_streams.proofs.whole.write_all.Given as goal

abbrev pub invariant-loop-taken : goal.invariant-loop-taken
invariant-loop-taken g l = record {
  faults : l.writer.faults ≡ l.initial.writer.faults;
  within : l.taken ≤ length l.output;
  stands : Appends (g.W.Write.contents l.initial.writer.stream) (g.W.Write.contents l.writer.stream) (take l.taken l.output);
}

abbrev pub decreases-loop-taken : goal.decreases-loop-taken
decreases-loop-taken g l = length l.output - l.taken
