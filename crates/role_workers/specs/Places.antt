-- Lists with a property at each index.
use Rattle.std.specs.Prelude.{◌≡◌, ℕ, List, Some, slice_get}

-- the value at each index has the property of that index
abbrev pub EachAt : {A : Type 0} → (ℕ → A → Type 0) → List A → Type 0
EachAt {A} Q xs = (k : ℕ) (a : A) → slice_get xs k ≡ Some a → Q k a
