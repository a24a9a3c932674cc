-- Terms without variables.
use Rattle.std.specs.Prelude.{ℕ, Bool, true, false, not, ◌&&◌, ◌||◌, ◌==◌, nat_le, List, [], ◌∷◌, Option, Some, None, if◌then◌else◌}
use Rattle.game_core.specs.Bytes.{is_atom_byte, lower}
use Rattle.game_core.specs.Expression.{Expression, atom, list, Expressions, none, more, depth, max_depth}
use Rattle.game_core.specs.Canonical.{canonical}

-- the first byte of a variable
abbrev pub question_mark : ℕ
question_mark = 63

abbrev pub are_small_atom_bytes : List ℕ → Bool
are_small_atom_bytes [] = true
are_small_atom_bytes (b ∷ bs) = is_atom_byte b && (lower b == b) && are_small_atom_bytes bs

-- a run of atom bytes without capitals that is not a variable
abbrev pub is_word : List ℕ → Bool
is_word [] = false
is_word (b ∷ bs) = not (b == question_mark) && are_small_atom_bytes (b ∷ bs)

-- whether the first member is an atom
abbrev pub begins_with_atom : Expressions → Bool
begins_with_atom none = false
begins_with_atom (more (atom w) xs) = true
begins_with_atom (more (list ys) xs) = false

-- an atom, or a list of an atom and then any number of terms
abbrev mutual
  pub is_term : Expression → Bool
  is_term (atom w) = is_word w
  is_term (list xs) = begins_with_atom xs && are_terms xs

  pub are_terms : Expressions → Bool
  are_terms none = true
  are_terms (more x xs) = is_term x && are_terms xs

-- a term with lists nested at most max_depth deep
abbrev pub is_ground_term : Expression → Bool
is_ground_term x = is_term x && nat_le (depth x) max_depth

abbrev pub term_text : Expression → Option (List ℕ)
term_text x = if is_ground_term x then Some (canonical x) else None

abbrev pub is_variable : List ℕ → Bool
is_variable [] = false
is_variable (b ∷ bs) = b == question_mark

-- whether some atom in the expression is a variable
abbrev mutual
  pub has_variable : Expression → Bool
  has_variable (atom w) = is_variable w
  has_variable (list xs) = have_variable xs

  pub have_variable : Expressions → Bool
  have_variable none = false
  have_variable (more x xs) = has_variable x || have_variable xs
