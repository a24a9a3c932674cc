use Rattle.std.proofs.Common.{arith}
use Rattle.match_plans.proofs.Words.{cut-is-last}
use Rattle.match_plans.proofs.addresses.host_and_port.Goals as goal

pub returns : goal.returns
returns c = cut-is-last 58 c.args.place.now c.rsplit_once.result c.rsplit_once.ensures.cases (omega arith)
