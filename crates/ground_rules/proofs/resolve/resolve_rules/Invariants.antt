use Rattle.std.proofs.Common.{◌≡◌, map, take}
use Rattle.rule_sentences.specs.SentenceViews.{rule_of}
use Rattle.numbered_rules.specs.Numbered.{rule_of as numbered_rule}
use Rattle.ground_rules.specs.Internal.Resolved.{resolved_rule, table_of}
use Rattle.ground_rules.proofs.resolve.resolve_rules.Given as goal

abbrev pub invariant-loop-rule : goal.invariant-loop-rule
invariant-loop-rule l = map numbered_rule l.resolved.items ≡ map (λ r. resolved_rule (table_of l.names) (rule_of r)) (take l.rule-index l.rules)
