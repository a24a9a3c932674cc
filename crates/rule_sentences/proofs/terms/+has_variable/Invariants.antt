use Rattle.std.proofs.Common.{◌≡◌, drop}
use Rattle.kif_text.specs.View.{views}
use Rattle.rule_sentences.specs.Terms.{have_variable}
use Rattle.rule_sentences.proofs.terms.+has_variable.Given as goal

abbrev pub invariant-have_variable-loop-member : goal.invariant-have_variable-loop-member
invariant-have_variable-loop-member l = have_variable (views (drop l.member-index l.member-items)) ≡ have_variable (views l.member-items)
