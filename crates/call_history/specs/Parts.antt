-- A line's part of a history.
use Rattle.std.specs.Prelude.{◌==◌, ℕ, zero, suc, ◌+◌, List, map, length}
use Rattle.std.specs.List.{filter}
use Rattle.call_history.specs.declared.journal.Entry.{Entry}

-- the entries of one line, in order
abbrev pub part : {C R : Type 0} → ℕ → List (Entry C R) → List (Entry C R)
part line history = filter (λ e. e.line == line) history

abbrev pub calls_of : {C R : Type 0} → List (Entry C R) → List C
calls_of entries = map (λ e. e.call) entries

abbrev pub replies_of : {C R : Type 0} → List (Entry C R) → List R
replies_of entries = map (λ e. e.reply) entries

-- the number of entries of all lines with lower numbers
abbrev pub entries_below : {C R : Type 0} → ℕ → List (Entry C R) → ℕ
entries_below zero history = 0
entries_below (suc line) history = entries_below line history + length (part line history)
