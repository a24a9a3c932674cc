use Rattle.rule_sentences.proofs.AtomicLists.{literal-added}
use Rattle.rule_sentences.proofs.sizes.+add_literal.Goals as goal

pub add_all_literals-loop-literal-preserved : goal.add_all_literals-loop-literal-preserved
add_all_literals-loop-literal-preserved t c =
    literal-added c.loop-literal.set.keys c.add_literal.new.set.keys _ c.deref-literal-items.result.now c.loop-literal.literal-index c.literal-item.result c.loop-literal-test.true c.literal-item.is c.in_ok-add_literal.ensures c.loop-literal.invariant
