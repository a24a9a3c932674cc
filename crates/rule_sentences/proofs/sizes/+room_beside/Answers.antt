use Rattle.rule_sentences.proofs.AtomicLists.{room-literal}
use Rattle.rule_sentences.proofs.sizes.+room_beside.Goals as goal

pub room_beside_all-loop-literal-preserved : goal.room_beside_all-loop-literal-preserved
room_beside_all-loop-literal-preserved t c =
    room-literal c.loop-literal.left c.room_beside-left.result _ c.deref-literal-items.result.now c.loop-literal.literal-index c.literal-item.result c.loop-literal-test.true c.literal-item.is c.room_beside-left.ensures c.loop-literal.invariant
