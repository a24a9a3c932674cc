use Rattle.std.proofs.Common.{◌≡◌, map, drop}
use Rattle.rule_sentences.specs.SentenceViews.{rules_of}
use Rattle.rule_sentences.specs.Descriptions.{with_all_new, same_derived, heads}
use Rattle.ground_rules.proofs.names.heads.Given as goal

abbrev pub invariant-loop-rule : goal.invariant-loop-rule
invariant-loop-rule l = with_all_new same_derived l.heads.keys (map (λ r. r.head) (rules_of (drop l.rule-index l.rules))) ≡ heads (rules_of l.rules)
