use Rattle.std.proofs.Common.{sym, ◌∙◌}
use Rattle.rule_sentences.specs.SentenceViews.{rules_of}
use Rattle.game_core.specs.Limits.{max_atomic_sentences}
use Rattle.rule_sentences.specs.Sizes.{atomics}
use Rattle.rule_sentences.proofs.AtomicLists.{few-each-once}
use Rattle.rule_sentences.proofs.sizes.have_few_atomic_sentences.Goals as goal

pub returns-then-name_few_atomic_sentences : goal.returns-then-name_few_atomic_sentences
returns-then-name_few_atomic_sentences c = sym (few-each-once (atomics (rules_of c.args.rules.now)) (max_atomic_sentences c.args.limits) (sym c.name_few_atomic_sentences.ensures ∙ c.if-name_few_atomic_sentences.true))
