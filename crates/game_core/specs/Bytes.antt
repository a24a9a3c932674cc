-- Names of the bytes of KIF text, and their kinds.
use Rattle.std.specs.Prelude.{ℕ, Bool, not, ◌&&◌, ◌||◌, ◌==◌, nat_le, ◌+◌, if◌then◌else◌}

abbrev pub tab : ℕ
tab = 9

abbrev pub line_feed : ℕ
line_feed = 10

abbrev pub carriage_return : ℕ
carriage_return = 13

abbrev pub space : ℕ
space = 32

abbrev pub left_parenthesis : ℕ
left_parenthesis = 40

abbrev pub right_parenthesis : ℕ
right_parenthesis = 41

abbrev pub semicolon : ℕ
semicolon = 59

abbrev pub is_white : ℕ → Bool
is_white b = b == space || b == tab || b == carriage_return || b == line_feed

-- a visible ASCII character except parentheses and the semicolon
abbrev pub is_atom_byte : ℕ → Bool
is_atom_byte b = nat_le 33 b && nat_le b 126 && not (b == left_parenthesis) && not (b == right_parenthesis) && not (b == semicolon)

-- the lower-case letter of an ASCII capital; any other byte stays as it is
abbrev pub lower : ℕ → ℕ
lower b = if nat_le 65 b && nat_le b 90 then b + 32 else b
