use Rattle.std.proofs.Common.{◌≡◌, ◌++◌, map, take, drop}
use Rattle.game_core.specs.Expression.{folded}
use Rattle.kif_text.specs.View.{view as expression}
use Rattle.rule_sentences.proofs.rules.fold_each.Given as goal

abbrev pub invariant-loop-sentence : goal.invariant-loop-sentence
invariant-loop-sentence l = map expression l.sentences ≡ map folded (take l.sentence-index (map expression l.fn.sentences)) ++ drop l.sentence-index (map expression l.fn.sentences)
