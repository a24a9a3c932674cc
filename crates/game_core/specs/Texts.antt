-- The byte order of texts.
use Rattle.std.specs.Prelude.{ℕ, ◌≡◌, ◌<◌, ◌⊎◌, List, [], ◌∷◌, AllPairs}

-- A text comes before another if it is a proper prefix of the other, or has the lower byte where they first differ.
abbrev pub IsBefore : List ℕ → List ℕ → Type 0
IsBefore [] [] = ⊥
IsBefore [] (b ∷ bs) = Unit {0}
IsBefore (a ∷ as') [] = ⊥
IsBefore (a ∷ as') (b ∷ bs) = (a < b) ⊎ ((a ≡ b) × IsBefore as' bs)

-- the texts are in strictly ascending byte order
abbrev pub AreInByteOrder : List (List ℕ) → Type 0
AreInByteOrder texts = AllPairs IsBefore texts
