-- Positions in a text, by line and column.
use Rattle.std.specs.Prelude.{ℕ, ◌+◌, ◌==◌, if◌then◌else◌, List, [], ◌∷◌}
use Rattle.game_core.specs.Bytes.{line_feed}

-- the line number after these bytes, which begin in this line
abbrev pub line_after : ℕ → List ℕ → ℕ
line_after line [] = line
line_after line (b ∷ bs) = line_after (if b == line_feed then line + 1 else line) bs

-- the column after these bytes, which begin in this column; the first column of a line is 1
abbrev pub column_after : ℕ → List ℕ → ℕ
column_after column [] = column
column_after column (b ∷ bs) = column_after (if b == line_feed then 1 else column + 1) bs
