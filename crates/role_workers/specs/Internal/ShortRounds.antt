-- Rounds of a desk that run out of memory for a call.
use Rattle.std.specs.Prelude.{ℕ, ◌-◌, ◌==◌, Bool, true, Result, Ok, Err}
use Rattle.call_history.specs.declared.journal.CallFault.{CallFault}
use Rattle.call_history.specs.declared.journal.CallFault.TheVariants.{Full, Memory}
use Rattle.call_history.specs.declared.ring_desk.DeskFault.{DeskFault}

-- how many consecutive rounds may run out of memory for a call
abbrev pub max_short_rounds : ℕ
max_short_rounds = 10000

-- how many more consecutive rounds may run out of memory, after a round that stopped for this cause
abbrev pub left_after : ℕ → CallFault → ℕ
left_after before Memory = before - 1
left_after before Full = max_short_rounds

-- how many more consecutive rounds may run out of memory, after a round with this result
abbrev pub rounds_left : ℕ → Result ℕ DeskFault → ℕ
rounds_left before (Ok served) = max_short_rounds
rounds_left before (Err fault) = left_after before fault.cause

-- The desk stops after a round with this cause: its history is full, or no further round may run out of memory for a call.
abbrev pub stops_for : ℕ → CallFault → Bool
stops_for left Full = true
stops_for left Memory = left == 0
