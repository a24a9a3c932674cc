use Rattle.std.proofs.Common.{◌≡◌, drop, []}
use Rattle.numbered_rules.specs.Numbered.{numbered, rules_of, row_after, unset}
use Rattle.numbered_rules.specs.Exposed.{exposed_rules}
use Rattle.numbered_rules.proofs.dependence.dependence.Given as goal

abbrev pub invariant-loop-rule : goal.invariant-loop-rule
invariant-loop-rule l = row_after (numbered [] []) l.row (exposed_rules l.of_state (rules_of (drop l.rule-index l.rules))) ≡ row_after (numbered [] []) (unset l.atoms) (exposed_rules l.of_state (rules_of l.rules))
