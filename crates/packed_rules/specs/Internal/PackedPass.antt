-- The pass over packed rules.
use Rattle.std.specs.Prelude.{ℕ, ◌+◌, ◌≡◌, Bool, true, ◌&&◌, if◌then◌else◌, List, [], ◌∷◌, take, drop, slice_set}
use Rattle.std.proofs.Math.Bool.{beq}
use Rattle.numbered_rules.specs.declared.numbered.Literal.{Literal as CodeLiteral}
use Rattle.ground_rules.specs.Literals.{Literal, Rule}
use Rattle.ground_rules.specs.Fit.{truth, all_true}
use Rattle.ground_rules.specs.Numbered.{bit, numbered, views}
use Rattle.packed_rules.specs.declared.rules.Test.{Test}
use Rattle.packed_rules.specs.declared.rules.MoveTest.{MoveTest}
use Rattle.packed_rules.specs.declared.rules.RuleSize.{RuleSize}
use Rattle.packed_rules.specs.declared.rule_table.RuleTable.{RuleTable}
use Rattle.packed_rules.specs.Internal.PlacedRules.{PlacedRule, placed_rules, AreCut}

-- the row has the value that the test requires
abbrev pub passes : List Bool → Test → Bool
passes bits t = beq (bit bits t.place) t.value

abbrev pub all_pass : List Bool → List Test → Bool
all_pass bits [] = true
all_pass bits (t ∷ ts) = passes bits t && all_pass bits ts

-- the role makes the move, or does not, as required
abbrev pub agrees : List ℕ → MoveTest → Bool
agrees joint t = beq ((numbered [] joint).does t.role t.term) t.value

abbrev pub all_agree : List ℕ → List MoveTest → Bool
all_agree joint [] = true
all_agree joint (t ∷ ts) = agrees joint t && all_agree joint ts

-- the literals are true in a row that has this many terms and then the derived atoms
abbrev pub all_fire : ℕ → List ℕ → List Bool → List Test → List MoveTest → List CodeLiteral → Bool
all_fire terms joint bits tests moves others = all_agree joint moves && (all_pass bits tests && all_true (numbered (take terms bits) joint) (bit (drop terms bits)) (views others))

abbrev pub fires : ℕ → List ℕ → List Bool → PlacedRule → Bool
fires terms joint bits r = all_fire terms joint bits r.tests r.moves r.others

abbrev pub rules_in : RuleTable → List PlacedRule
rules_in t = placed_rules t.rules.items t.tests.items t.moves.items t.others.items

-- the rules of the table use exactly the table's literals
abbrev pub IsCut : RuleTable → Type 0
IsCut t = AreCut t.rules.items t.tests.items t.moves.items t.others.items

-- the row after one pass over the rules: a rule sets its head if its literals are true
abbrev pub packed_after : ℕ → List ℕ → List Bool → List PlacedRule → List Bool
packed_after terms joint bits [] = bits
packed_after terms joint bits (r ∷ rs) = packed_after terms joint (if fires terms joint bits r then slice_set bits (terms + r.head) true else bits) rs

-- the row after a pass over rules of these sizes that have only tests
abbrev pub tests_after : ℕ → List Bool → List RuleSize → List Test → List Bool
tests_after terms bits [] ts = bits
tests_after terms bits (s ∷ ss) ts = tests_after terms (if all_pass bits (take s.tests ts) then slice_set bits (terms + s.head) true else bits) ss (drop s.tests ts)

-- the test passes if and only if the literal is true
abbrev pub IsTestOf : ℕ → Literal ℕ ℕ → Test → Type 0
IsTestOf terms l t = (bits : List Bool) (joint : List ℕ) → passes bits t ≡ truth (numbered (take terms bits) joint) (bit (drop terms bits)) l

abbrev pub IsMoveTestOf : ℕ → Literal ℕ ℕ → MoveTest → Type 0
IsMoveTestOf terms l t = (bits : List Bool) (joint : List ℕ) → agrees joint t ≡ truth (numbered (take terms bits) joint) (bit (drop terms bits)) l

pub record IsPacked (terms : ℕ) (p : PlacedRule) (r : Rule ℕ ℕ) : Type 0 where
  pub head : p.head ≡ r.head
  pub body : (bits : List Bool) (joint : List ℕ) → fires terms joint bits p ≡ all_true (numbered (take terms bits) joint) (bit (drop terms bits)) r.body

abbrev pub ArePacked : ℕ → List PlacedRule → List (Rule ℕ ℕ) → Type 0
ArePacked terms [] [] = Unit {0}
ArePacked terms [] (r ∷ rs) = ⊥
ArePacked terms (p ∷ ps) [] = ⊥
ArePacked terms (p ∷ ps) (r ∷ rs) = IsPacked terms p r × ArePacked terms ps rs

-- each rule of the table means the same as the rule with the same index in the list
pub record IsPackedTable (terms : ℕ) (t : RuleTable) (rs : List (Rule ℕ ℕ)) : Type 0 where
  pub cut : IsCut t
  pub rules : ArePacked terms (rules_in t) rs
