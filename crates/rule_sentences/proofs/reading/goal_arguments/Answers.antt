use Rattle.std.proofs.Common.{arith}
use Rattle.rule_sentences.specs.Reading.{goal_value}
use Rattle.rule_sentences.proofs.Arguments.{two_arguments-none}
use Rattle.rule_sentences.proofs.reading.goal_arguments.Goals as goal

pub returns-then-members-ne3 : goal.returns-then-members-ne3
returns-then-members-ne3 c = two_arguments-none goal_value c.args.members.now (λ e. omega arith)
