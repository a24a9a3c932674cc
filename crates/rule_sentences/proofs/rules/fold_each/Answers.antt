use Rattle.std.proofs.Common.{arith}
use Rattle.rule_sentences.proofs.FoldedLists.{one-more-folded, each-folded}
use Rattle.rule_sentences.proofs.rules.fold_each.Goals as goal

pub loop-sentence-preserved : goal.loop-sentence-preserved
loop-sentence-preserved c =
    one-more-folded c.args.sentences.now c.loop-sentence.sentences c.loop-sentence.sentence-index c.sentence-item.result c.fold.new.expr c.loop-sentence-test.true (omega arith) c.fold.ensures c.loop-sentence.invariant

pub returns : goal.returns
returns c = each-folded c.args.sentences.now c.loop-sentence.sentences c.loop-sentence.sentence-index c.loop-sentence-test.false c.loop-sentence.invariant
