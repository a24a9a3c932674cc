use Rattle.rule_sentences.proofs.AtomicLists.{rule-added}
use Rattle.rule_sentences.proofs.sizes.count_atomic_sentences.Goals as goal

pub loop-rule-preserved : goal.loop-rule-preserved
loop-rule-preserved c =
    rule-added c.loop-rule.set.keys c.add_rule.new.set.keys _ c.args.rules.now c.loop-rule.rule-index c.rule-item.result c.loop-rule-test.true c.rule-item.is c.in_ok-add_rule.ensures c.loop-rule.invariant
