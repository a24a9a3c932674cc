use Rattle.std.proofs.Common.{arith}
use Rattle.rule_sentences.proofs.LiteralLists.{negation-none}
use Rattle.rule_sentences.proofs.reading.negation.Goals as goal

pub returns-then-len-ne1 : goal.returns-then-len-ne1
returns-then-len-ne1 c = rw c.in-Some.is (negation-none c.in-Some.literals.items (λ e. omega arith))
