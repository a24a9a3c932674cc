use Rattle.std.proofs.Common.{◌≡◌, ◌++◌, drop, true}
use Rattle.rule_sentences.specs.SentenceViews.{rules_of}
use Rattle.rule_sentences.specs.Descriptions.{role_names, are_different}
use Rattle.ground_rules.proofs.names.role_names.Given as goal

abbrev pub invariant-loop-rule : goal.invariant-loop-rule
invariant-loop-rule l = record {
  names : l.names.keys ++ role_names (rules_of (drop l.rule-index l.rules)) ≡ role_names (rules_of l.rules);
  differ : are_different l.names.keys ≡ true;
}
