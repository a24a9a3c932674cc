-- The invariants of the search for a ranking.
use Rattle.std.specs.Prelude.{ℕ, ◌<◌, ◌≤◌, ◌≡◌, ◌≢◌, ◌+◌, List, length, slice_index, slice_index_or, sum_by}
use Rattle.numbered_rules.specs.declared.rank.Mark.{Mark}
use Rattle.numbered_rules.specs.declared.rank.Mark.TheVariants.{New, Open, Done}
use Rattle.numbered_rules.specs.Order.{needs_at, IsGraph}

abbrev pub mark : List Mark → ℕ → Mark
mark marks n = slice_index_or marks n New

abbrev pub IsPlaced : List Mark → ℕ → Type 0
IsPlaced marks n = (r : ℕ) × (mark marks n ≡ Done r)

abbrev pub IsBefore : List Mark → ℕ → ℕ → Type 0
IsBefore marks r n = (q : ℕ) × (mark marks n ≡ Done q) × (q < r)

abbrev pub IsNeed : List (List ℕ) → ℕ → ℕ → Type 0
IsNeed needs n d = (i : ℕ) × (i < length (needs_at needs n)) × (slice_index (needs_at needs n) i ≡ d)

-- if the path has a last atom, that atom needs d
abbrev pub IsLinked : List (List ℕ) → List ℕ → ℕ → Type 0
IsLinked needs path d = (k : ℕ) → k + 1 ≡ length path → IsNeed needs (slice_index path k) d

-- atoms that are met in the old marks are met in the new marks
abbrev pub AreOnlyOld : List Mark → List Mark → Type 0
AreOnlyOld old marks = (n : ℕ) → mark old n ≢ New → mark marks n ≢ New

-- a depth-first search in progress
pub record IsSearching (needs : List (List ℕ)) (marks : List Mark) (next path order : List ℕ) : Type 0 where
  pub graph : IsGraph needs
  pub marks_wide : length marks ≡ length needs
  pub next_wide : length next ≡ length needs
  pub next_within : (n : ℕ) → slice_index next n ≤ length (needs_at needs n)
  pub passed : (n i : ℕ) → i < slice_index next n → IsPlaced marks (slice_index (needs_at needs n) i)
  pub done : (n i r : ℕ) → mark marks n ≡ Done r → i < length (needs_at needs n) → IsBefore marks r (slice_index (needs_at needs n) i)
  pub placed : (n r : ℕ) → mark marks n ≡ Done r → (r < length order) × (slice_index order r ≡ n)
  pub ordered : (r : ℕ) → r < length order → mark marks (slice_index order r) ≡ Done r
  pub open' : (n k : ℕ) → mark marks n ≡ Open k → (k < length path) × (slice_index path k ≡ n)
  pub on_path : (k : ℕ) → k < length path → mark marks (slice_index path k) ≡ Open k
  pub within : (k : ℕ) → k < length path → slice_index path k < length needs
  pub chain : (k : ℕ) → k + 1 < length path → IsNeed needs (slice_index path k) (slice_index path (k + 1))

abbrev pub weight : Mark → ℕ
weight New = 2
weight (Open k) = 0
weight (Done r) = 0

-- the remaining work, which decreases with each step
abbrev pub work : List Mark → List ℕ → ℕ
work marks path = sum_by weight marks + length path
