-- A client's conversation with the desk.
use Rattle.std.specs.Prelude.{ℕ, List, ◌++◌, Option}
use Rattle.std.specs.Io.KnownBytes.{Appends}
use Rattle.whole_streams.specs.Streams.{AppendsPart}
use Rattle.desk_service.specs.declared.ending.Ending.{Ending}
use Rattle.desk_service.specs.declared.ending.Ending.TheVariants.{Left, Broken, TooLong, Full}
use Rattle.desk_service.specs.Rows.{last_row}

-- how a read can end a conversation
abbrev pub EndsReading : Ending → Type 0
EndsReading TooLong = ⊥
EndsReading Full = ⊥
EndsReading ending = Unit {0}

-- the text was written, or, if the connection broke, only a prefix of it
abbrev pub WritesUpTo : Ending → Option (List ℕ) → Option (List ℕ) → List ℕ → Type 0
WritesUpTo Broken old new text = AppendsPart old new text
WritesUpTo ending old new text = Appends old new text

-- The client got the text if it ended the conversation, a prefix of the text if the connection broke, and otherwise the
-- text and the last row, or a prefix of both.
abbrev pub Says : Ending → Option (List ℕ) → Option (List ℕ) → List ℕ → Type 0
Says Left old new text = Appends old new text
Says Broken old new text = AppendsPart old new text
Says ending old new text = AppendsPart old new (text ++ last_row ending)
