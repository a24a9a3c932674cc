use Rattle.std.proofs.Common.{◌≡◌, drop}
use Rattle.numbered_rules.specs.Numbered.{numbered, rules_of, row_after}
use Rattle.ground_rules.proofs.evaluate.pass.Given as goal

abbrev pub invariant-loop-rule : goal.invariant-loop-rule
invariant-loop-rule l = row_after (numbered l.state l.joint) l.row (rules_of (drop l.rule-index l.rules)) ≡ row_after (numbered l.state l.joint) l.fn.row (rules_of l.rules)
