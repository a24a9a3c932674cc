use Rattle.std.proofs.Common.{◌≡◌, drop}
use Rattle.rule_sentences.specs.SentenceViews.{rules_of}
use Rattle.rule_sentences.specs.Descriptions.{with_all_new, each_once}
use Rattle.rule_sentences.specs.Sizes.{same_atomic, atomics}
use Rattle.rule_sentences.proofs.sizes.count_atomic_sentences.Given as goal

abbrev pub invariant-loop-rule : goal.invariant-loop-rule
invariant-loop-rule l = with_all_new same_atomic l.set.keys (atomics (rules_of (drop l.rule-index l.rules))) ≡ each_once same_atomic (atomics (rules_of l.rules))
