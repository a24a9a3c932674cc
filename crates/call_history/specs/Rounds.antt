-- A desk over rings, and the effect of its rounds.
use Rattle.std.specs.Prelude.{◌≡◌, ◌↔◌, ◌⊎◌, ℕ, ◌<◌, List, [], ◌∷◌, ◌++◌, length, None, IsSome, slice_index_or, option_to_list}
use Rattle.std.specs.List.{All}
use Rattle.rtrb.specs.Ring.{sent, received, known_items, known_free}
use Rattle.call_history.specs.declared.journal.Entry.{Entry}
use Rattle.call_history.specs.declared.port.Port.{Port}
use Rattle.call_history.specs.History.{JournalValue}
use Rattle.call_history.specs.Parts.{part, calls_of, replies_of}

-- a desk over rings as contracts see it: its journal, and its ends of the rings, by the numbers of the lines
pub record RingDeskValue (S C R : Type 0) : Type 0 where
  pub journal : JournalValue S C R
  pub ports : List (Port C R)

-- The desk has received from a line the calls in the line's part of the history, and then the call that the desk keeps, if any. It has sent
-- the line the replies in that part.
pub record Serves {C R : Type 0} (served : List (Entry C R)) (port : Port C R) : Type 0 where
  pub calls : received port.calls ≡ calls_of served ++ option_to_list port.kept
  pub replies : sent port.replies ≡ replies_of served

-- The invariant between rounds: each entry belongs to a line of the desk, and the desk has served each line its part of the history.
pub record ServesLines {C R : Type 0} (history : List (Entry C R)) (ports : List (Port C R)) : Type 0 where
  pub lines : All (λ e. e.line < length ports) history
  pub parts : (i : ℕ) (p : Port C R) → i < length ports → Serves (part i history) (slice_index_or ports i p)

-- the rings of the line have carried nothing
pub record IsUnused {C R : Type 0} (port : Port C R) : Type 0 where
  pub calls : received port.calls ≡ []
  pub kept : port.kept ≡ None
  pub replies : sent port.replies ≡ []

-- The history gained this many entries, from lines with increasing numbers below the bound.
pub record Gains {C R : Type 0} (before after : List (Entry C R)) (bound count : ℕ) : Type 0 where
  pub gained : List (Entry C R)
  pub behind : after ≡ before ++ gained
  pub count_is : length gained ≡ count
  pub below : All (λ e. e.line < bound) gained
  pub rising : (i j : ℕ) (d : Entry C R) → i < j → j < length gained → (slice_index_or gained i d).line < (slice_index_or gained j d).line

-- The history gained one entry, from this line.
pub record GainsOne {C R : Type 0} (line : ℕ) (before after : List (Entry C R)) : Type 0 where
  pub entry : Entry C R
  pub behind : after ≡ before ++ entry ∷ []
  pub line_is : entry.line ≡ line

-- The desk can do nothing more for the line: there is no free slot for a reply, or no call is kept or waiting.
abbrev pub IsIdle : {C R : Type 0} → Port C R → Type 0
IsIdle port = (known_free port.replies ≡ 0) ⊎ ((port.kept ≡ None) × (known_items port.calls ≡ []))

-- The desk skipped a line: it can do nothing more for the line, and has taken nothing from it.
pub record IsPassedBy {C R : Type 0} (before after : Port C R) : Type 0 where
  pub idle : IsIdle after
  pub kept : after.kept ≡ before.kept

-- Each line below the bound was visited: its part of the history gained an entry, or the desk skipped it.
abbrev pub Visits : {C R : Type 0} → (before after : List (Entry C R)) → (ports ports' : List (Port C R)) → ℕ → Type 0
Visits {C} {R} before after ports ports' bound = (i : ℕ) (p : Port C R) → i < bound
    → IsPassedBy (slice_index_or ports i p) (slice_index_or ports' i p) ⊎ (length (part i before) < length (part i after))

-- A round stopped at this line, and the desk keeps the line's call. The statement `for_full` holds if and only if the history is full.
pub record StopsAt {S C R : Type 0} (line : ℕ) (for_full : Type 0) (desk : RingDeskValue S C R) : Type 0 where
  pub within : line < length desk.ports
  pub kept : (p : Port C R) → IsSome (slice_index_or desk.ports line p).kept
  pub is_full : for_full ↔ (length desk.journal.history ≡ desk.journal.most)
