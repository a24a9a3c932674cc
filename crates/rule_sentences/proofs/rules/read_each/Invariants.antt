use Rattle.std.proofs.Common.{◌≡◌, ◌++◌, map}
use Rattle.std.specs.List.{position_from, filter_map}
use Rattle.kif_text.specs.View.{view as expression}
use Rattle.rule_sentences.specs.SentenceViews.{rules_of}
use Rattle.rule_sentences.specs.SentenceFaults.{first_place, is_malformed, is_misplaced, rule_in, description_of}
use Rattle.rule_sentences.proofs.RuleLists.{rest, first_or}
use Rattle.rule_sentences.proofs.rules.read_each.Given as goal

abbrev pub invariant-loop-number : goal.invariant-loop-number
invariant-loop-number l = record {
  malformed : position_from is_malformed l.number (rest l.number l.sentences) ≡ first_place is_malformed (map expression l.sentences);
  misplaced : first_or l.misplaced (position_from is_misplaced l.number (rest l.number l.sentences)) ≡ first_place is_misplaced (map expression l.sentences);
  rules : rules_of l.rules.items ++ filter_map rule_in (rest l.number l.sentences) ≡ description_of (map expression l.sentences);
}
