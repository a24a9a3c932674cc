-- The graph of the atoms and their needs, and its rankings.
use Rattle.std.specs.Prelude.{ℕ, ◌<◌, ◌≡◌, List, [], length, slice_index, slice_index_or}

abbrev pub needs_at : List (List ℕ) → ℕ → List ℕ
needs_at needs n = slice_index_or needs n []

-- all needs are atoms of the graph
abbrev pub IsGraph : List (List ℕ) → Type 0
IsGraph needs = (n i : ℕ) → n < length needs → i < length (needs_at needs n) → slice_index (needs_at needs n) i < length needs

-- the number of an atom is greater than the numbers of its needs
abbrev pub IsDown : (ℕ → ℕ) → List (List ℕ) → Type 0
IsDown number needs = (n i : ℕ) → n < length needs → i < length (needs_at needs n) → number (slice_index (needs_at needs n) i) < number n

abbrev pub IsGraphAcyclic : List (List ℕ) → Type 0
IsGraphAcyclic needs = (number : ℕ → ℕ) × IsDown number needs

-- each atom has one place in the order, after the places of its needs
pub record IsRanking (needs : List (List ℕ)) (order places : List ℕ) : Type 0 where
  pub wide : length places ≡ length needs
  pub down : IsDown (slice_index places) needs
  pub placed : (n : ℕ) → n < length needs → (slice_index places n < length order) × (slice_index order (slice_index places n) ≡ n)
  pub ordered : (r : ℕ) → r < length order → (slice_index order r < length needs) × (slice_index places (slice_index order r) ≡ r)
