-- The bytes of a file of records.
use Rattle.std.specs.Prelude.{◌≡◌, ◌==◌, ◌<◌, ◌≤◌, ◌-◌, ℕ, Bool, true, List, [], ◌∷◌, drop, length, slice_index, Option, None, Some}
use Rattle.game_core.specs.Bytes.{line_feed}
use Rattle.whole_streams.specs.Lines.{HasNoLineFeed}

abbrev pub record_start : ℕ
record_start = 123

-- the file is empty, or begins as a record does
abbrev pub may_hold_records : List ℕ → Bool
may_hold_records [] = true
may_hold_records (first ∷ rest) = first == record_start

-- the number of bytes up to and including the last line feed; None if there is no line feed
abbrev pub EndsLine : List ℕ → Option ℕ → Type 0
EndsLine bytes None = HasNoLineFeed bytes
EndsLine bytes (Some count) = (0 < count) × (count ≤ length bytes) × (slice_index bytes (count - 1) ≡ line_feed) × HasNoLineFeed (drop count bytes)
