use Rattle.std.proofs.Common.{◌≤◌}
use Rattle.process_streams.proofs.records_file.whole_lines.Given as goal

abbrev pub invariant-loop-end : goal.invariant-loop-end
invariant-loop-end g l = l.end ≤ l.length

abbrev pub decreases-loop-end : goal.decreases-loop-end
decreases-loop-end g l = l.end
