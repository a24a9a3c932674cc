-- Laws about taking the lines of a text one after another.
use Rattle.std.specs.Prelude.{◌≡◌, ℕ, ◌<◌, List, [], ◌∷◌, ◌++◌, length}
use Rattle.std.specs.Str.Lines.{lines}
use Rattle.whole_streams.specs.Lines.{HasNoLineFeed, BeginsWithLine, BeginsWithLines}

-- If the first lines were taken from a text, the next line begins with the bytes that are left, and continues with bytes of the stream.
abbrev pub NextLineIsTaken : Type 0
NextLineIsTaken = (text : List ℕ) (first : List (List ℕ)) (left given line rest : List ℕ) → BeginsWithLines text first left → BeginsWithLine (left ++ given) line rest → BeginsWithLines (text ++ given) (first ++ line ∷ []) rest

-- If the stream gives the rest of the text, and the bytes that are left and given have no line feed, these bytes are the last line.
abbrev pub LastLineIsTaken : Type 0
LastLineIsTaken = (text : List ℕ) (first : List (List ℕ)) (left given line : List ℕ) → BeginsWithLines text first left → 0 < length (left ++ given) → line ≡ left ++ given → HasNoLineFeed (left ++ given)
    → lines (text ++ given) ≡ first ++ line ∷ []
