use Rattle.std.proofs.Common.{◌≡◌, drop}
use Rattle.kif_text.specs.View.{views}
use Rattle.rule_sentences.specs.Terms.{are_terms}
use Rattle.rule_sentences.proofs.terms.+is_term.Given as goal

abbrev pub invariant-are_terms-loop-member : goal.invariant-are_terms-loop-member
invariant-are_terms-loop-member l = are_terms (views (drop l.member-index l.member-items)) ≡ are_terms (views l.member-items)
