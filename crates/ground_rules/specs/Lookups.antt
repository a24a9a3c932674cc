-- The answers that the tables of a game give for a row of truth values.
use Rattle.std.specs.Prelude.{ℕ, Bool, true, if◌then◌else◌, List, [], ◌∷◌, map, filter, slice_set, Option, Some, None}
use Rattle.ground_rules.specs.declared.tables.Mention.{Mention}
use Rattle.ground_rules.specs.declared.tables.GoalHead.{GoalHead}
use Rattle.ground_rules.specs.declared.state.GroundMove.{GroundMove}
use Rattle.numbered_rules.specs.Numbered.{bit}

-- the row of terms, with the terms of the true mentions set
abbrev pub marked : List Bool → List Bool → List Mention → List Bool
marked marks row [] = marks
marked marks row (m ∷ ms) = marked (if bit row m.atom then slice_set marks m.term true else marks) row ms

abbrev pub chosen : List Bool → List Mention → List GroundMove
chosen row heads = map (λ h. record { term = h.term }) (filter (λ h. bit row h.atom) heads)

abbrev pub only : List GoalHead → Option ℕ
only [] = None
only (h ∷ []) = Some h.value
only (h ∷ k ∷ hs) = None

abbrev pub only_goal : List Bool → List GoalHead → Option ℕ
only_goal row heads = only (filter (λ h. bit row h.atom) heads)

-- the texts of the terms that are set, in order
abbrev pub picked : List Bool → List (List ℕ) → List (List ℕ)
picked [] texts = []
picked (b ∷ bs) [] = []
picked (b ∷ bs) (x ∷ xs) = if b then x ∷ picked bs xs else picked bs xs
