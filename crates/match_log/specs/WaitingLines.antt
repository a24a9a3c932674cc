-- The text lines of the log that wait to be written.
use Rattle.std.specs.Prelude.{◌≡◌, ℕ, ◌≤◌, Bool, false, List, [], ◌++◌, length}
use Rattle.game_core.specs.Counting.{one_more}
use Rattle.match_log.specs.declared.notices.Waiting.{Waiting}

-- no text waits; `closed` says whether the reports have ended
abbrev pub IsNothing : Waiting → Bool → Type 0
IsNothing waiting closed = (waiting.reports.items ≡ []) × (waiting.log.items ≡ []) × (waiting.left_out ≡ 0)
    × (waiting.has_moved ≡ false) × (waiting.is_closed ≡ closed)

-- the largest number of bytes that may wait, including a new text line of the log
abbrev pub max_waiting : ℕ
max_waiting = 8388608

-- the text line waits after the others
abbrev pub Waits : Waiting → Waiting → List ℕ → Type 0
Waits old new line = (new.log.items ≡ old.log.items ++ line) × (length new.log.items ≤ max_waiting) × (new.left_out ≡ old.left_out)

-- the text line is counted as left out, and none of its bytes waits
abbrev pub IsLeftOut : Waiting → Waiting → Type 0
IsLeftOut old new = (new.log.items ≡ old.log.items) × (new.left_out ≡ one_more old.left_out)
