use Rattle.std.proofs.Common.{◌≡◌, ◌+◌, ◌-◌, drop, length}
use Rattle.rule_sentences.specs.SentenceViews.{rules_of}
use Rattle.game_core.specs.Limits.{max_atomic_sentences}
use Rattle.rule_sentences.specs.Sizes.{atomics}
use Rattle.rule_sentences.proofs.sizes.name_few_atomic_sentences.Given as goal

abbrev pub invariant-loop-rule : goal.invariant-loop-rule
invariant-loop-rule l = l.left - length (atomics (rules_of (drop l.rule-index l.rules))) ≡ (max_atomic_sentences l.fn.limits + 1) - length (atomics (rules_of l.rules))
