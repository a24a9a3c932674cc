-- The canonical text of an expression: one space between the members of a list, and no space inside its parentheses.
use Rattle.std.specs.Prelude.{ℕ, ◌≡◌, List, [], ◌∷◌, ◌++◌}
use Rattle.game_core.specs.Bytes.{space, left_parenthesis, right_parenthesis}
use Rattle.game_core.specs.Expression.{Expression, atom, list, Expressions, none, more, IsProper, folded}

abbrev mutual
  pub canonical : Expression → List ℕ
  canonical (atom w) = w
  canonical (list xs) = left_parenthesis ∷ (members xs ++ right_parenthesis ∷ [])

  pub members : Expressions → List ℕ
  members none = []
  members (more x xs) = canonical x ++ later xs

  pub later : Expressions → List ℕ
  later none = []
  later (more x xs) = space ∷ (canonical x ++ later xs)

-- the canonical text of a proper expression
abbrev pub IsCanonicalText : List ℕ → Type 0
IsCanonicalText text = (x : Expression) × IsProper x × (text ≡ canonical x)

-- a lower-case text: the canonical text of a proper expression that is in lower case
abbrev pub IsFoldedText : List ℕ → Type 0
IsFoldedText text = (x : Expression) × IsProper x × (folded x ≡ x) × (text ≡ canonical x)
