use Rattle.std.proofs.Common.{sym}
use Rattle.record_check.proofs.recorded_turn.are_all_retired.Goals as goal

pub returns : goal.returns
returns c = sym c.count_retired.ensures.all
