-- The limits of a desk.
use Rattle.std.specs.Prelude.{ℕ}

-- the largest number of entries of a history
abbrev pub max_entries : ℕ
max_entries = 1000000

-- the largest number of lines of a desk
abbrev pub max_lines : ℕ
max_lines = 4096

-- the largest number of slots of a ring
abbrev pub max_room : ℕ
max_room = 1024
