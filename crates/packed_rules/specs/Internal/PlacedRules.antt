-- Packed rules with their literals in shared lists.
use Rattle.std.specs.Prelude.{ℕ, ◌≡◌, ◌≤◌, List, [], ◌∷◌, length, take, drop}
use Rattle.numbered_rules.specs.declared.numbered.Literal.{Literal as CodeLiteral}
use Rattle.packed_rules.specs.declared.rules.Test.{Test}
use Rattle.packed_rules.specs.declared.rules.MoveTest.{MoveTest}
use Rattle.packed_rules.specs.declared.rules.PackedRule.{PackedRule}
use Rattle.packed_rules.specs.declared.rules.RuleSize.{RuleSize}

pub record PlacedRule : Type 0 where
  pub head : ℕ
  pub tests : List Test
  pub moves : List MoveTest
  pub others : List CodeLiteral

abbrev pub placed : PackedRule → PlacedRule
placed p = record { head = p.head; tests = p.tests.items; moves = p.moves.items; others = p.others.items }

abbrev pub placed_rules : List RuleSize → List Test → List MoveTest → List CodeLiteral → List PlacedRule
placed_rules [] ts ms os = []
placed_rules (s ∷ ss) ts ms os = record { head = s.head; tests = take s.tests ts; moves = take s.moves ms; others = take s.others os } ∷ placed_rules ss (drop s.tests ts) (drop s.moves ms) (drop s.others os)

abbrev pub AreCut : List RuleSize → List Test → List MoveTest → List CodeLiteral → Type 0
AreCut [] ts ms os = (length ts ≡ 0) × (length ms ≡ 0) × (length os ≡ 0)
AreCut (s ∷ ss) ts ms os = (s.tests ≤ length ts) × (s.moves ≤ length ms) × (s.others ≤ length os) × AreCut ss (drop s.tests ts) (drop s.moves ms) (drop s.others os)

-- there are enough tests for the rules of these sizes
abbrev pub AreTestsCut : List RuleSize → List Test → Type 0
AreTestsCut [] ts = Unit {0}
AreTestsCut (s ∷ ss) ts = (s.tests ≤ length ts) × AreTestsCut ss (drop s.tests ts)
