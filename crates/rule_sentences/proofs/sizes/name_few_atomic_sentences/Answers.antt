use Rattle.rule_sentences.proofs.AtomicLists.{room-rule}
use Rattle.rule_sentences.proofs.sizes.name_few_atomic_sentences.Goals as goal

pub loop-rule-preserved : goal.loop-rule-preserved
loop-rule-preserved c =
    room-rule c.loop-rule.left c.saturating_sub.result c.room_beside_all-left.result _ c.args.rules.now c.loop-rule.rule-index c.rule-item.result c.loop-rule-test.true c.rule-item.is c.saturating_sub.ensures c.room_beside_all-left.ensures c.loop-rule.invariant
