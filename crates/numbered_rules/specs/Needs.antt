-- The atoms that each derived atom of numbered rules needs.
use Rattle.std.specs.Prelude.{ℕ, nat_lt, nat_eq, if◌then◌else◌, List, [], ◌∷◌, ◌++◌}
use Rattle.numbered_rules.specs.Literals.{Literal, Literals, Holds, InState, Does, Distinct, Not, Or, End, More, Rule}

-- the atoms of a literal that are below this number
abbrev mutual
  pub atoms_in : ℕ → Literal ℕ ℕ → List ℕ
  atoms_in size (Holds a) = if nat_lt a size then a ∷ [] else []
  atoms_in size (InState t) = []
  atoms_in size (Does r m) = []
  atoms_in size (Distinct t u) = []
  atoms_in size (Not l) = atoms_in size l
  atoms_in size (Or ls) = all_atoms_in size ls

  pub all_atoms_in : ℕ → Literals ℕ ℕ → List ℕ
  all_atoms_in size End = []
  all_atoms_in size (More l ls) = atoms_in size l ++ all_atoms_in size ls

-- the atoms, below this number, in the bodies of the rules with this head
abbrev pub needs_of : ℕ → ℕ → List (Rule ℕ ℕ) → List ℕ
needs_of size n [] = []
needs_of size n (r ∷ rs) = (if nat_eq r.head n then all_atoms_in size r.body else []) ++ needs_of size n rs
