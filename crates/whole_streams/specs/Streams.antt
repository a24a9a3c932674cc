-- The effect of reading a whole input, and of writing a whole output, on the streams.
use Rattle.std.specs.Prelude.{◌≡◌, ℕ, ◌<◌, ◌≤◌, ◌⊎◌, List, Option, length, take}
use Rattle.std.specs.Io.KnownBytes.{Appends}
use Rattle.game_core.specs.Counting.{Counting, CallsMade, max_stream_calls, one_more}
use Rattle.whole_streams.specs.declared.whole.InputFault.{InputFault}
use Rattle.whole_streams.specs.declared.whole.InputFault.TheVariants.{ReadFault, TooLong, Memory}

-- The last read failed; or the limit of reads was reached, and each read gave at least one byte.
abbrev pub StopsReading : {R : Type 0} → ℕ → Counting R → Counting R → Type 0
StopsReading given old new = (new.faults ≡ one_more old.faults) ⊎ (CallsMade max_stream_calls old.calls new.calls × (max_stream_calls ≤ given) × (new.faults ≡ old.faults))

-- The meaning of an error, given the bytes that were read before it, the limit of bytes, and the reader before and after.
abbrev pub InputFails : {R : Type 0} → ℕ → InputFault → List ℕ → Counting R → Counting R → Type 0
InputFails limit ReadFault given old new = (length given ≤ limit) × StopsReading (length given) old new
InputFails limit TooLong given old new = (limit < length given) × (new.faults ≡ old.faults)
InputFails limit Memory given old new = (length given ≤ limit) × (new.faults ≡ old.faults)

-- if the contents are known, a prefix of the text was appended
abbrev pub AppendsPart : Option (List ℕ) → Option (List ℕ) → List ℕ → Type 0
AppendsPart old new text = (taken : ℕ) × (taken ≤ length text) × Appends old new (take taken text)
