-- A KIF expression as a plain tree, independent of its place in memory.
use Rattle.std.specs.Prelude.{ℕ, suc, ◌≡◌, ◌<◌, ◌≤◌, max, map, length, List, [], ◌∷◌, true}
use Rattle.game_core.specs.Bytes.{is_atom_byte, lower}

mutual
  pub data Expression : Type 0 where
    atom : List ℕ → Expression
    list : Expressions → Expression

  pub data Expressions : Type 0 where
    none : Expressions
    more : Expression → Expressions → Expressions

-- the depth of nested lists
abbrev mutual
  pub depth : Expression → ℕ
  depth (atom w) = 0
  depth (list xs) = suc (depth_all xs)

  pub depth_all : Expressions → ℕ
  depth_all none = 0
  depth_all (more x xs) = max (depth x) (depth_all xs)

-- the expression in lower case: the ASCII capitals in its atoms are converted
abbrev mutual
  pub folded : Expression → Expression
  folded (atom w) = atom (map lower w)
  folded (list xs) = list (all_folded xs)

  pub all_folded : Expressions → Expressions
  all_folded none = none
  all_folded (more x xs) = more (folded x) (all_folded xs)

abbrev pub AreAtomBytes : List ℕ → Type 0
AreAtomBytes [] = Unit {0}
AreAtomBytes (b ∷ bs) = (is_atom_byte b ≡ true) × AreAtomBytes bs

abbrev pub IsAtom : List ℕ → Type 0
IsAtom w = (0 < length w) × AreAtomBytes w

abbrev mutual
  pub HasAtoms : Expression → Type 0
  HasAtoms (atom w) = IsAtom w
  HasAtoms (list xs) = AllHaveAtoms xs

  pub AllHaveAtoms : Expressions → Type 0
  AllHaveAtoms none = Unit {0}
  AllHaveAtoms (more x xs) = HasAtoms x × AllHaveAtoms xs

-- the largest depth of nested lists in a proper expression
abbrev pub max_depth : ℕ
max_depth = 64

-- all atoms are valid, and lists are nested at most max_depth deep
abbrev pub IsProper : Expression → Type 0
IsProper x = HasAtoms x × (depth x ≤ max_depth)
