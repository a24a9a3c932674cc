use Rattle.std.proofs.Common.{◌≡◌, map}
use Rattle.kif_text.specs.View.{views as expressions}
use Rattle.rule_sentences.specs.SentenceViews.{view}
use Rattle.rule_sentences.specs.Reading.{read_literals}
use Rattle.rule_sentences.specs.Internal.Members.{without_first}
use Rattle.rule_sentences.proofs.LiteralLists.{prefixed, left}
use Rattle.rule_sentences.proofs.reading.+read_literal.Given as goal

abbrev pub invariant-read_literals-loop-place : goal.invariant-read_literals-loop-place
invariant-read_literals-loop-place l = prefixed (map view l.literals.items) (read_literals (left l.start l.place l.member-items)) ≡ read_literals (without_first l.start (expressions l.member-items))
