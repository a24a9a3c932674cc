use Rattle.std.proofs.Common.{◌≡◌, drop, bytes_eq}
use Rattle.rule_sentences.specs.SentenceViews.{rules_of}
use Rattle.rule_sentences.specs.Descriptions.{with_all_new, each_once}
use Rattle.ground_rules.specs.Internal.Resolved.{head_terms}
use Rattle.ground_rules.proofs.names.head_terms.Given as goal

abbrev pub invariant-loop-rule : goal.invariant-loop-rule
invariant-loop-rule l = with_all_new bytes_eq l.terms.keys (head_terms l.kind (rules_of (drop l.rule-index l.rules))) ≡ each_once bytes_eq (head_terms l.kind (rules_of l.rules))
