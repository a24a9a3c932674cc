use Rattle.std.proofs.Common.{arith}
use Rattle.rule_sentences.proofs.Arguments.{one_argument-none}
use Rattle.rule_sentences.proofs.reading.one_argument.Goals as goal

pub returns-then-members-ne2 : goal.returns-then-members-ne2
returns-then-members-ne2 c = one_argument-none c.args.members.now (λ e. omega arith)
