use Rattle.std.proofs.Common.{◌-◌, length}
use Rattle.explanations.proofs.bad_entries.difference.Given as goal

abbrev pub decreases-loop-at : goal.decreases-loop-at
decreases-loop-at l = length l.entry - l.at
