-- Reading an input line by line. The bytes "at hand" were read, but are not yet part of a line.
use Rattle.std.specs.Prelude.{◌≡◌, ◌≢◌, ℕ, ◌<◌, ◌≤◌, Bool, true, false, List, [], ◌∷◌, ◌++◌, length, All, Option}
use Rattle.std.specs.Io.KnownBytes.{IsAtEnd}
use Rattle.std.specs.Str.Lines.{lines, strip_carriage_return}
use Rattle.game_core.specs.Bytes.{line_feed}
use Rattle.whole_streams.specs.declared.lines.NextLine.{NextLine}
use Rattle.whole_streams.specs.declared.lines.NextLine.TheVariants.{Ended, Last, Nothing}
use Rattle.whole_streams.specs.declared.whole.InputFault.{InputFault}
use Rattle.whole_streams.specs.declared.whole.InputFault.TheVariants.{ReadFault, TooLong, Memory}

abbrev pub HasNoLineFeed : List ℕ → Type 0
HasNoLineFeed bytes = All (λ b. b ≢ line_feed) bytes

-- The bytes begin with this line, and `left` follows its line feed. The line includes neither the line feed nor a carriage return directly
-- before it.
abbrev pub BeginsWithLine : List ℕ → List ℕ → List ℕ → Type 0
BeginsWithLine bytes line left = (whole : List ℕ) × (bytes ≡ whole ++ line_feed ∷ left) × HasNoLineFeed whole × (line ≡ strip_carriage_return whole)

-- for all bytes that follow, the lines of the text are these lines, and then the lines of the bytes that are left
abbrev pub BeginsWithLines : List ℕ → List (List ℕ) → List ℕ → Type 0
BeginsWithLines text first left = (more : List ℕ) → lines (text ++ more) ≡ first ++ lines (left ++ more)

-- The next part of an input with these bytes at hand, and the bytes at hand afterwards. Only a last line may lack a line feed, and such a
-- line stays unchanged.
abbrev pub IsNextLine : Option (List ℕ) → List ℕ → NextLine → List ℕ → Type 0
IsNextLine remaining bytes (Ended line) left = BeginsWithLine bytes line.items left
IsNextLine remaining bytes (Last line) left = (0 < length bytes) × (line.items ≡ bytes) × HasNoLineFeed bytes × (left ≡ []) × IsAtEnd remaining
IsNextLine remaining bytes Nothing left = (bytes ≡ []) × (left ≡ []) × IsAtEnd remaining

abbrev pub line_bytes : NextLine → List ℕ
line_bytes (Ended line) = line.items
line_bytes (Last line) = line.items
line_bytes Nothing = []

-- the bytes that are left at the end of the input are the last line; or no bytes are left
abbrev pub IsEnd : List ℕ → NextLine → Type 0
IsEnd bytes (Ended line) = ⊥
IsEnd bytes (Last line) = (line.items ≡ bytes) × (0 < length bytes)
IsEnd bytes Nothing = bytes ≡ []

-- This piece of the bytes at hand belongs to the line, and `left` is the rest. If the line ends, its line feed is skipped; otherwise
-- the piece is all bytes at hand.
abbrev pub IsPiece : List ℕ → Bool → List ℕ → List ℕ → Type 0
IsPiece bytes true piece left = bytes ≡ piece ++ line_feed ∷ left
IsPiece bytes false piece left = (bytes ≡ piece) × (left ≡ [])

-- why a line of this length is not stored: it is too long, or memory runs out
abbrev pub StopsLine : ℕ → InputFault → ℕ → Type 0
StopsLine limit ReadFault count = ⊥
StopsLine limit TooLong count = limit < count
StopsLine limit Memory count = count ≤ limit
