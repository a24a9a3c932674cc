use Rattle.std.proofs.Common.{length}
use Rattle.explanations.proofs.bad_lines.push_first_bad_line.Given as goal

abbrev pub decreases-loop-rest : goal.decreases-loop-rest
decreases-loop-rest l = length l.rest
