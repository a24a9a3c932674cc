-- Packed rules as contracts see them.
use Rattle.std.specs.Prelude.{ℕ, List}
use Rattle.numbered_rules.specs.declared.split.SplitRules.{SplitRules}
use Rattle.ground_rules.specs.Literals.{Rule}
use Rattle.ground_rules.specs.Numbered.{rules_of}

-- the number of terms in the row of a state, and the rules that were packed
pub record PackedTable : Type 0 where
  pub terms : ℕ
  pub plain : SplitRules

abbrev pub rest_of : PackedTable → List (Rule ℕ ℕ)
rest_of t = rules_of t.plain.rest.items

abbrev pub turn_of : PackedTable → List (Rule ℕ ℕ)
turn_of t = rules_of t.plain.turn.items
