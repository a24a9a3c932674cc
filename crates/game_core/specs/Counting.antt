-- A counted stream as contracts see it.
use Rattle.std.specs.Prelude.{ℕ, ◌<◌, ◌≤◌, ◌+◌, ◌-◌, ◌^◌, min, List, length, Result, Ok, Err, if◌then◌else◌, ◌&&◌, ◌==◌, nat_lt}

-- a stream with two counts: all reads and writes, and the failed ones
pub record Counting (S : Type 0) : Type 0 where
  pub stream : S
  pub calls : ℕ
  pub faults : ℕ

-- the highest count
abbrev pub last_count : ℕ
last_count = 2 ^ 64 - 1

-- the largest number of reads of one input, or of writes to one output
abbrev pub max_stream_calls : ℕ
max_stream_calls = 200000

-- one more, up to the highest count
abbrev pub one_more : ℕ → ℕ
one_more n = min (n + 1) last_count

-- at least this many calls were made between the two counts, unless the count has reached its highest value
abbrev pub CallsMade : ℕ → ℕ → ℕ → Type 0
CallsMade calls old new = new < last_count → calls + old ≤ new

-- the number of failures after a read
abbrev pub after_read : {E : Type 0} → Result ℕ E → ℕ → ℕ
after_read (Ok n) faults = faults
after_read (Err e) faults = one_more faults

-- the number of failures after a write of these bytes; a write of at least one byte fails if it writes none
abbrev pub after_write : {E : Type 0} → Result ℕ E → List ℕ → ℕ → ℕ
after_write (Ok n) bytes faults = if n == 0 && nat_lt 0 (length bytes) then one_more faults else faults
after_write (Err e) bytes faults = one_more faults
