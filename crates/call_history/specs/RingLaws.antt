-- Properties of the lines of a desk over rings that stay true while calls are posted and served and replies are taken.
use Rattle.std.specs.Prelude.{◌≡◌, ℕ, ◌<◌, List, length, true, Contains}
use Rattle.call_history.specs.declared.port.Port.{Port}
use Rattle.call_history.specs.Lines.{has_number}
use Rattle.call_history.specs.RingLines.{LineValue, SameLine, SamePorts, IsLineOf, AreEndsOf, IsNewLine}
use Rattle.call_history.specs.RingClosing.{end_numbers}

module _ (C R : Type 0) where
  -- a line of a desk stays a line of that desk while the desk serves and the line posts and takes
  abbrev pub LinesStay : Type 0
  LinesStay = (before after : List (Port C R)) (line line' : LineValue C R) → SamePorts before after → SameLine line line' → IsLineOf before line → IsLineOf after line'

  -- the ends of a desk's lines stay ends of its lines while the desk serves
  abbrev pub EndsStay : Type 0
  EndsStay = (before after : List (Port C R)) (ends : List (LineValue C R)) → SamePorts before after → AreEndsOf before ends → AreEndsOf after ends

  -- a new line stays new while the desk serves
  abbrev pub NewLinesStay : Type 0
  NewLinesStay = (before after : List (Port C R)) (number : ℕ) (line : LineValue C R) → SamePorts before after → number < length before → IsNewLine before number line → IsNewLine after number line

  abbrev pub NewLinesAreLines : Type 0
  NewLinesAreLines = (ports : List (Port C R)) (number : ℕ) (line : LineValue C R) → number < length ports → IsNewLine ports number line → IsLineOf ports line

  -- if a number is among the numbers of some ends, one of them has it
  abbrev pub NumbersAreOfEnds : Type 0
  NumbersAreOfEnds = (ends : List (LineValue C R)) (number : ℕ) → has_number number (end_numbers ends) ≡ true → (end : LineValue C R) × Contains ends end × (end.number ≡ number)

  -- a desk has the same lines as itself
  abbrev pub PortsAreSame : Type 0
  PortsAreSame = (ports : List (Port C R)) → SamePorts ports ports

  -- a desk still has the same lines after more rounds
  abbrev pub PortsStaySame : Type 0
  PortsStaySame = (first then last : List (Port C R)) → SamePorts first then → SamePorts then last → SamePorts first last
