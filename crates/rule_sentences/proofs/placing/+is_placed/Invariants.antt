use Rattle.std.proofs.Common.{◌≡◌, drop}
use Rattle.rule_sentences.specs.SentenceViews.{views}
use Rattle.rule_sentences.specs.Places.{are_placed}
use Rattle.rule_sentences.proofs.placing.+is_placed.Given as goal

abbrev pub invariant-are_placed-loop-literal : goal.invariant-are_placed-loop-literal
invariant-are_placed-loop-literal l = are_placed (views (drop l.literal-index l.literal-items)) ≡ are_placed (views l.literal-items)
