-- Literals and rules over the names of derived atoms and the names of terms. In a description the names are sentences and canonical
-- texts. In a loaded game they are numbers.
use Rattle.std.specs.Prelude.{List, [], ◌∷◌}

mutual
  pub data Literal (A T : Type 0) : Type 0 where
    -- a derived atom
    Holds : A → Literal A T
    -- (true t)
    InState : T → Literal A T
    -- (does r m)
    Does : T → T → Literal A T
    Distinct : T → T → Literal A T
    Not : Literal A T → Literal A T
    Or : Literals A T → Literal A T

  pub data Literals (A T : Type 0) : Type 0 where
    End : Literals A T
    More : Literal A T → Literals A T → Literals A T

abbrev pub literals : {A T : Type 0} → List (Literal A T) → Literals A T
literals [] = End
literals (l ∷ ls) = More l (literals ls)

-- a head and its literals; a fact has no literals
pub record Rule (A T : Type 0) : Type 0 where
  pub head : A
  pub body : Literals A T

-- P holds for each derived atom of the literal
abbrev mutual
  pub AtomsAre : {A T : Type 0} → (A → Type 0) → Literal A T → Type 0
  AtomsAre P (Holds a) = P a
  AtomsAre P (InState t) = Unit {0}
  AtomsAre P (Does r m) = Unit {0}
  AtomsAre P (Distinct t u) = Unit {0}
  AtomsAre P (Not l) = AtomsAre P l
  AtomsAre P (Or ls) = AllAtomsAre P ls

  pub AllAtomsAre : {A T : Type 0} → (A → Type 0) → Literals A T → Type 0
  AllAtomsAre P End = Unit {0}
  AllAtomsAre P (More l ls) = AtomsAre P l × AllAtomsAre P ls
