-- A packed state as its two rows.
use Rattle.std.specs.Prelude.{ℕ, Bool, List, take, drop}
use Rattle.ground_rules.specs.States.{StateRows}

-- the truth values of this many terms, and then those of the derived atoms
abbrev pub rows_at : ℕ → List Bool → StateRows
rows_at terms bits = record { row = take terms bits; kept = drop terms bits }
