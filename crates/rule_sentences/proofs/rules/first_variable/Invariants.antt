use Rattle.std.proofs.Common.{◌≡◌, map, drop}
use Rattle.std.specs.List.{position_from}
use Rattle.kif_text.specs.View.{view as expression}
use Rattle.rule_sentences.specs.Terms.{has_variable}
use Rattle.rule_sentences.specs.SentenceFaults.{first_place}
use Rattle.rule_sentences.proofs.rules.first_variable.Given as goal

abbrev pub invariant-loop-place : goal.invariant-loop-place
invariant-loop-place l = position_from has_variable l.place (map expression (drop l.place l.sentences)) ≡ first_place has_variable (map expression l.sentences)
