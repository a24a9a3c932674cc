-- Numbered rules in the order of a ranking of their heads.
use Rattle.std.specs.Prelude.{ℕ, ◌<◌, ◌≤◌, List, [], ◌∷◌}
use Rattle.numbered_rules.specs.Literals.{Rule, AllAtomsAre}

-- the ranks of the heads are at least `low` and never decrease, all heads are below `atoms`, and each rule contains only atoms of lower rank
-- than its head
abbrev pub AreRankedFrom : (ℕ → ℕ) → ℕ → ℕ → List (Rule ℕ ℕ) → Type 0
AreRankedFrom rank low atoms [] = Unit {0}
AreRankedFrom rank low atoms (r ∷ rs) = (low ≤ rank r.head) × (r.head < atoms) × AllAtomsAre (λ a. rank a < rank r.head) r.body × AreRankedFrom rank (rank r.head) atoms rs
