-- The limits of a description: the usual ones and those of large games.
use Rattle.std.specs.Prelude.{ℕ}
use Rattle.game_core.specs.declared.limits.Limits.{Limits}
use Rattle.game_core.specs.declared.limits.Limits.TheVariants.{Usual, Large}

-- the largest number of bytes
abbrev pub max_bytes : Limits → ℕ
max_bytes Usual = 1048576
max_bytes Large = 16777216

-- the largest number of sentences
abbrev pub max_sentences : Limits → ℕ
max_sentences Usual = 8192
max_sentences Large = 262144

-- the largest number of distinct atomic sentences
abbrev pub max_atomic_sentences : Limits → ℕ
max_atomic_sentences Usual = 16384
max_atomic_sentences Large = 262144
