use Rattle.std.proofs.Common.{length}
use Rattle.match_log.proofs.notices.unwritten.Given as goal

abbrev pub decreases-loop-rest : goal.decreases-loop-rest
decreases-loop-rest g l = length l.rest
