use Rattle.std.proofs.Common.{arith}
use Rattle.ground_rules.specs.Internal.Resolved.{table_of}
use Rattle.ground_rules.proofs.ResolvedLists.{all-rules}
use Rattle.ground_rules.proofs.resolve.resolve_rules.Goals as goal

pub returns : goal.returns
returns c = all-rules (table_of c.args.names.now) c.loop-rule.resolved.items c.args.rules.now c.loop-rule.rule-index (omega arith) c.loop-rule.invariant
