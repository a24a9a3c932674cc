use Rattle.std.proofs.Common.{◌≡◌, ◌<◌, ◌++◌, ℕ, length, drop}
use Rattle.numbered_rules.specs.Numbered.{rules_of}
use Rattle.numbered_rules.specs.Order.{needs_at}
use Rattle.numbered_rules.specs.Needs.{needs_of}
use Rattle.numbered_rules.proofs.needs.needs_of.Given as goal

abbrev pub invariant-loop-rule : goal.invariant-loop-rule
invariant-loop-rule l = record {
  wide : length l.needs.items ≡ l.size;
  each : (n : ℕ) → n < l.size → needs_at l.needs.items n ++ needs_of l.size n (rules_of (drop l.rule-index l.rules)) ≡ needs_of l.size n (rules_of l.rules);
}
