use Rattle.std.proofs.Common.{is_some}
use Rattle.match_plans.proofs.Words.{no-text, text-player}
use Rattle.match_plans.proofs.plan_line.player.Goals as goal

pub returns-in_default-clause-taken : goal.returns-in_default-clause-taken
returns-in_default-clause-taken c = no-text c.args.word.now c.in_default.ensures.cases.0

pub returns-clause-taken : goal.returns-clause-taken
returns-clause-taken c = text-player c.args.word.now c.in-Ok.word.now (is_some c.player_address.result) c.in-Ok.ensures.cases.0 c.in-Ok.ensures.cases.1 c.player_address.ensures.taken
