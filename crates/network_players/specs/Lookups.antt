-- How many lookups of hosts may be under way at once.
use Rattle.std.specs.Prelude.{ℕ, ◌*◌, ◌/◌, max, min}

-- How many of this many descriptors are reserved for lookups. A lookup takes at most four. The result is a quarter of the descriptors, but
-- enough for at least one lookup and for at most 1,024.
abbrev pub lookup_descriptors : ℕ → ℕ
lookup_descriptors descriptors = 4 * max 1 (min 1024 (descriptors / 16))
