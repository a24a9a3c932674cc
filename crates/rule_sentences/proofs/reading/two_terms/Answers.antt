use Rattle.std.proofs.Common.{arith}
use Rattle.rule_sentences.specs.Terms.{term_text}
use Rattle.rule_sentences.proofs.Arguments.{two_arguments-none}
use Rattle.rule_sentences.proofs.reading.two_terms.Goals as goal

pub returns-then-members-ne3 : goal.returns-then-members-ne3
returns-then-members-ne3 c = two_arguments-none term_text c.args.members.now (λ e. omega arith)
