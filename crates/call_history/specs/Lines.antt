-- The lines of a desk.
use Rattle.std.specs.Prelude.{◌≡◌, ◌==◌, ℕ, ◌<◌, zero, suc, Bool, true, false, List, [], ◌∷◌, ◌++◌, map}
use Rattle.std.specs.List.{list_any}

-- a line as contracts see it: its number, and the number of its calls that got a reply
pub record LockLineValue : Type 0 where
  pub number : ℕ
  pub made : ℕ

-- a desk as contracts see it: the number of its lines
pub record LockDeskValue : Type 0 where
  pub lines : ℕ

-- the lines of a new desk, numbered from 0
abbrev pub new_lines : ℕ → List LockLineValue
new_lines zero = []
new_lines (suc n) = new_lines n ++ record { number = n; made = 0 } ∷ []

abbrev pub numbers : List LockLineValue → List ℕ
numbers lines = map (λ line. line.number) lines

abbrev pub has_number : ℕ → List ℕ → Bool
has_number n given = list_any (λ k. k == n) given

-- all numbers below count are among these
abbrev pub HasAll : List ℕ → ℕ → Type 0
HasAll given count = (k : ℕ) → k < count → has_number k given ≡ true

-- n is the lowest number below count that is not among these
pub record IsLowestMissing (given : List ℕ) (count n : ℕ) : Type 0 where
  pub below : n < count
  pub missing : has_number n given ≡ false
  pub lowest : (k : ℕ) → k < n → has_number k given ≡ true
