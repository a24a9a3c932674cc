use Rattle.std.proofs.Common.{◌≡◌, ◌∙◌, ap, sym, bytes_eq, arith}
use Rattle.std.proofs.lemmas.List.{drop_all}
use Rattle.rule_sentences.specs.SentenceViews.{rules_of}
use Rattle.rule_sentences.specs.Descriptions.{with_all_new, each_once}
use Rattle.ground_rules.specs.Internal.Resolved.{head_terms}
use Rattle.ground_rules.proofs.ByteOrder.{sorted-in-order, sorted-same}
use Rattle.ground_rules.proofs.names.head_terms.Goals as goal

pub returns-clause-ordered : goal.returns-clause-ordered
returns-clause-ordered c = sorted-in-order c.sort.new.self.keys c.in_ok-sort.ensures.unique c.in_ok-sort.ensures.sorted

pub returns-clause-same : goal.returns-clause-same
returns-clause-same c = λ t.
    let rules = c.args.rules.now in
    let all : c.loop-rule.terms.keys ≡ each_once bytes_eq (head_terms c.args.kind (rules_of rules)) = sym (ap (λ rs. with_all_new bytes_eq c.loop-rule.terms.keys (head_terms c.args.kind (rules_of rs))) (drop_all c.loop-rule.rule-index rules (omega arith))) ∙ c.loop-rule.invariant in
    sorted-same c.loop-rule.terms.keys c.sort.new.self.keys (head_terms c.args.kind (rules_of rules)) t c.in_ok-sort.ensures.reordered.0 all
