-- Closing a desk over rings.
use Rattle.std.specs.Prelude.{◌≡◌, ℕ, ◌<◌, List, length, map, slice_index_or, Contains}
use Rattle.std.specs.List.{All}
use mathlib.Core.List.{IsPrefix}
use Rattle.call_history.specs.declared.journal.Entry.{Entry}
use Rattle.call_history.specs.declared.ring_desk.RingCloseFault.{RingCloseFault}
use Rattle.call_history.specs.declared.ring_desk.RingCloseFault.TheVariants.{MissingLine, Unserved}
use Rattle.call_history.specs.Lines.{HasAll, IsLowestMissing}
use Rattle.call_history.specs.Parts.{part, calls_of, replies_of, entries_below}
use Rattle.call_history.specs.RingLines.{LineValue, posted_calls, taken_replies, SameLine, SamePorts, AreEndsOf}
use Rattle.call_history.specs.Rounds.{RingDeskValue}

module _ {C R : Type 0} where
  abbrev pub end_numbers : List (LineValue C R) → List ℕ
  end_numbers ends = map (λ e. e.number) ends

  -- the line's part of the history has exactly the calls that the line posted, in order
  abbrev pub IsServed : List (Entry C R) → LineValue C R → Type 0
  IsServed history end = posted_calls end ≡ calls_of (part end.number history)

  -- the line posted more calls than its part of the history has
  abbrev pub IsUnserved : List (Entry C R) → LineValue C R → Type 0
  IsUnserved history end = length (part end.number history) < length (posted_calls end)

  -- the replies that the line took are the first replies to its calls, in order
  abbrev pub TakesPrefix : List (Entry C R) → LineValue C R → Type 0
  TakesPrefix history end = IsPrefix (taken_replies end) (replies_of (part end.number history))

  -- Among the first `count` ends, the one with this number is unserved, and all with lower numbers are served.
  pub record IsLowestUnserved (history : List (Entry C R)) (ends : List (LineValue C R)) (count number : ℕ) : Type 0 where
    pub at : ℕ
    pub within : at < count
    pub number_is : (e : LineValue C R) → (slice_index_or ends at e).number ≡ number
    pub unserved : (e : LineValue C R) → IsUnserved history (slice_index_or ends at e)
    pub lowest : (i : ℕ) (e : LineValue C R) → i < count → (slice_index_or ends i e).number < number → IsServed history (slice_index_or ends i e)

  -- each line's part of the history has exactly the calls that the line posted, in order
  abbrev pub HaveOwnCalls : List (Entry C R) → List (LineValue C R) → Type 0
  HaveOwnCalls history ends = (number : ℕ) (end : LineValue C R) → Contains ends end → end.number ≡ number → calls_of (part number history) ≡ posted_calls end

  -- the replies that each line took are the first replies to its calls, in order
  abbrev pub HaveOwnReplies : List (Entry C R) → List (LineValue C R) → Type 0
  HaveOwnReplies history ends = (number : ℕ) (end : LineValue C R) → Contains ends end → end.number ≡ number → IsPrefix (taken_replies end) (replies_of (part number history))

  -- The result of closing a desk: its history, its object, and how many calls each line made.
  pub record IsClosed {O : Type 0} (desk : RingDeskValue O C R) (ends : List (LineValue C R)) (history : List (Entry C R)) (object : O) (made_by_line : List ℕ) : Type 0 where
    pub history_is : history ≡ desk.journal.history
    pub object_is : object ≡ desk.journal.object
    -- all lines have come back, and each entry belongs to one of them
    pub has_all : HasAll (end_numbers ends) (length desk.ports)
    pub lines : All (λ e. e.line < length desk.ports) history
    pub calls : HaveOwnCalls history ends
    pub replies : HaveOwnReplies history ends
    -- so the parts of all lines together have as many entries as the history
    pub entries : length history ≡ entries_below (length desk.ports) history
    -- the number of calls of each line; the index is the line's number
    pub one_each : length made_by_line ≡ length desk.ports
    pub made : (i : ℕ) → i < length desk.ports → slice_index_or made_by_line i 0 ≡ length (part i history)

  -- why a desk was not closed
  abbrev pub IsCauseOf : {O : Type 0} → RingDeskValue O C R → List (LineValue C R) → RingCloseFault → Type 0
  IsCauseOf desk ends (MissingLine number) = IsLowestMissing (end_numbers ends) (length desk.ports) number
  IsCauseOf desk ends (Unserved number) = HasAll (end_numbers ends) (length desk.ports) × IsLowestUnserved desk.journal.history ends (length ends) number

  -- the same end, with the same posted calls and taken replies
  pub record SameEnd (a b : LineValue C R) : Type 0 where
    pub line : SameLine a b
    pub posted : posted_calls b ≡ posted_calls a
    pub taken : taken_replies b ≡ taken_replies a

  -- the same ends in the same order
  pub record SameEnds (before after : List (LineValue C R)) : Type 0 where
    pub count : length after ≡ length before
    pub each : (i : ℕ) (e : LineValue C R) → i < length before → SameEnd (slice_index_or before i e) (slice_index_or after i e)

  -- A refusal returns the desk and the ends as they were.
  pub record HandsBack {O : Type 0} (desk desk' : RingDeskValue O C R) (ends ends' : List (LineValue C R)) : Type 0 where
    pub journal : desk'.journal ≡ desk.journal
    pub ports : SamePorts desk.ports desk'.ports
    pub ends_are : SameEnds ends ends'
    pub lines : AreEndsOf desk'.ports ends'
