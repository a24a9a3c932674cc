use Rattle.std.proofs.Common.{◌≡◌, [], replicate}
use Rattle.numbered_rules.proofs.needs.no_needs.Given as goal

abbrev pub invariant-loop : goal.invariant-loop
invariant-loop l = l.needs.items ≡ replicate l.counter []
