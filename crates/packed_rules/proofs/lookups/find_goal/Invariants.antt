use Rattle.std.proofs.Common.{◌≡◌, ℕ, List, [], ◌∷◌, Option, Some, None, drop, filter}
use Rattle.ground_rules.specs.Numbered.{bit}
use Rattle.ground_rules.specs.declared.tables.GoalHead.{GoalHead}
use Rattle.ground_rules.specs.Lookups.{only, only_goal}
use Rattle.packed_rules.proofs.lookups.find_goal.Given as goal

-- the only goal, after a first one was found
abbrev only_after : Option ℕ → List GoalHead → Option ℕ
only_after None hs = only hs
only_after (Some n) [] = Some n
only_after (Some n) (h ∷ hs) = None

abbrev pub invariant-loop-head : goal.invariant-loop-head
invariant-loop-head l = only_after l.found (filter (λ h. bit l.state.kept h.atom) (drop l.head-index l.heads)) ≡ only_goal l.state.kept l.heads
