-- How many matches the descriptors allow at once.
use Rattle.std.specs.Prelude.{◌<◌, ◌≤◌, ◌+◌, ◌*◌, ◌⊎◌, ℕ}
use Rattle.network_players.specs.Lookups.{lookup_descriptors}

-- The descriptors are enough for this many matches at once: one for each player, some for looking up hosts, and 16 for everything else. One
-- match is always allowed.
abbrev pub Allows : ℕ → ℕ → ℕ → Type 0
Allows descriptors players matches = (matches ≤ 1) ⊎ (matches * players + 16 + lookup_descriptors descriptors ≤ descriptors)

pub record IsLargest (descriptors players matches : ℕ) : Type 0 where
  pub some : 1 ≤ matches
  pub allowed : Allows descriptors players matches
  pub largest : 0 < players → (others : ℕ) → Allows descriptors players others → others ≤ matches
