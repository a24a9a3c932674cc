use Rattle.std.proofs.Common.{◌≡◌, drop}
use Rattle.rule_sentences.specs.SentenceViews.{views}
use Rattle.rule_sentences.specs.Descriptions.{with_all_new}
use Rattle.rule_sentences.specs.Sizes.{same_atomic, all_atomics_in}
use Rattle.rule_sentences.proofs.sizes.+add_literal.Given as goal

abbrev pub invariant-add_all_literals-loop-literal : goal.invariant-add_all_literals-loop-literal
invariant-add_all_literals-loop-literal l = with_all_new same_atomic l.set.keys (all_atomics_in (views (drop l.literal-index l.literal-items))) ≡ with_all_new same_atomic l.initial.set.keys (all_atomics_in (views l.literal-items))
