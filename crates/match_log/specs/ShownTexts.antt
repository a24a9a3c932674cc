-- How a text of any bytes is shown on one text line.
use Rattle.std.specs.Prelude.{ℕ, ◌==◌, ◌&&◌, Bool, nat_le, nat_lt, List, [], ◌++◌, length, take, map, codes, if◌then◌else◌}
use Rattle.game_core.specs.Bytes.{line_feed}

-- a byte from the space to the tilde
abbrev pub is_visible : ℕ → Bool
is_visible byte = nat_le 32 byte && nat_le byte 126

-- the byte if it is visible, and otherwise ?
abbrev pub shown_byte : ℕ → ℕ
shown_byte byte = if is_visible byte then byte else 63

-- the byte if it is visible or a line feed, since a report may have several text lines, and otherwise ?
abbrev pub reported_byte : ℕ → ℕ
reported_byte byte = if byte == line_feed then byte else shown_byte byte

-- the largest number of bytes of a text that are shown
abbrev pub max_shown : ℕ
max_shown = 200

-- two dots if the text has more bytes than are shown
abbrev pub further : List ℕ → List ℕ
further text = if nat_lt max_shown (length text) then codes ".." else []

abbrev pub shown_text : List ℕ → List ℕ
shown_text text = map shown_byte (take max_shown text) ++ further text
