-- Numbered rules, and one pass over them.
use Rattle.std.specs.Prelude.{ℕ, Bool, true, false, nat_eq, if◌then◌else◌, List, [], ◌∷◌, map, slice_index_or, slice_set, slice_get, Option, Some, None, replicate, box_value}
use Rattle.numbered_rules.specs.Literals.{Literal, Literals, literals, Holds, InState, Does, Not, Or, End, Rule}
use Rattle.numbered_rules.specs.Fit.{Situation, all_true}
use Rattle.numbered_rules.specs.declared.numbered.Literal.{Literal as CodeLiteral, fold-Literal}
use Rattle.numbered_rules.specs.declared.numbered.Literal.TheOpen.{Literal-F}
use Rattle.numbered_rules.specs.declared.numbered.Rule.{Rule as CodeRule}

-- a literal that is always true, or always false
abbrev pub known : {A T : Type 0} → Bool → Literal A T
known true = Not (Or End)
known false = Or End

-- one level of a literal; its inner literals are already converted
abbrev pub view_step : Literal-F (Literal ℕ ℕ) → Literal ℕ ℕ
view_step (Literal-F.Holds a) = Holds a
view_step (Literal-F.InState t) = InState t
view_step (Literal-F.Does r m) = Does r m
view_step (Literal-F.Not l) = Not (box_value l)
view_step (Literal-F.Or v) = Or (literals v.items)
view_step (Literal-F.Known b) = known b

abbrev pub view : CodeLiteral → Literal ℕ ℕ
view = fold-Literal (Literal ℕ ℕ) view_step

abbrev pub views : List CodeLiteral → Literals ℕ ℕ
views ls = literals (map view ls)

abbrev pub rule_of : CodeRule → Rule ℕ ℕ
rule_of r = record { head = r.head; body = views r.body.items }

abbrev pub rules_of : List CodeRule → List (Rule ℕ ℕ)
rules_of rs = map rule_of rs

-- the value at this place, or false past the end
abbrev pub bit : List Bool → ℕ → Bool
bit row i = slice_index_or row i false

abbrev pub is_number : Option ℕ → ℕ → Bool
is_number (Some n) m = nat_eq n m
is_number None m = false

-- a state as a row over the terms, and the moves of the roles as terms; if the list of moves is empty, no role has moved
abbrev pub numbered : List Bool → List ℕ → Situation ℕ ℕ
numbered state joint = record { same = nat_eq; same_term = nat_eq; in_state = bit state; does = λ r m. is_number (slice_get joint r) m }

abbrev pub unset : ℕ → List Bool
unset n = replicate n false

-- the row after one pass over the rules: a rule sets its head if its body is true
abbrev pub row_after : Situation ℕ ℕ → List Bool → List (Rule ℕ ℕ) → List Bool
row_after w row [] = row
row_after w row (r ∷ rs) = row_after w (if all_true w (bit row) r.body then slice_set row r.head true else row) rs
