use Rattle.std.proofs.Common.{◌≡◌, ◌-◌, drop, length}
use Rattle.rule_sentences.specs.SentenceViews.{views}
use Rattle.rule_sentences.specs.Sizes.{all_atomics_in}
use Rattle.rule_sentences.proofs.sizes.+room_beside.Given as goal

abbrev pub invariant-room_beside_all-loop-literal : goal.invariant-room_beside_all-loop-literal
invariant-room_beside_all-loop-literal l = l.left - length (all_atomics_in (views (drop l.literal-index l.literal-items))) ≡ l.room - length (all_atomics_in (views l.literal-items))
