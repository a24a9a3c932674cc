-- The literals, sentences and rules that the values in memory represent.
use Rattle.std.specs.Prelude.{List, map, box_value}
use Rattle.numbered_rules.specs.Literals.{literals, Distinct, Not, Or}
use Rattle.rule_sentences.specs.declared.sentence.Literal.{Literal as CodeLiteral, fold-Literal}
use Rattle.rule_sentences.specs.declared.sentence.Literal.TheOpen.{Literal-F}
use Rattle.rule_sentences.specs.declared.sentence.Sentence.{Sentence as CodeSentence}
use Rattle.rule_sentences.specs.declared.sentence.Rule.{Rule as CodeRule}
use Rattle.rule_sentences.specs.Sentences.{TextLiteral, TextLiterals, TextRule, literal_of, Sentence}

-- one level of a literal; its inner literals are already converted
abbrev pub view_step : Literal-F TextLiteral → TextLiteral
view_step (Literal-F.Atomic a) = literal_of a
view_step (Literal-F.Not l) = Not (box_value l)
view_step (Literal-F.Or v) = Or (literals v.items)
view_step (Literal-F.Distinct t u) = Distinct t u

abbrev pub view : CodeLiteral → TextLiteral
view = fold-Literal TextLiteral view_step

abbrev pub views : List CodeLiteral → TextLiterals
views ls = literals (map view ls)

abbrev pub sentence_of : CodeSentence → Sentence
sentence_of s = record { head = s.head; body = views s.body.items }

abbrev pub rule_of : CodeRule → TextRule
rule_of r = record { head = r.head; body = views r.body.items }

abbrev pub rules_of : List CodeRule → List TextRule
rules_of rs = map rule_of rs
