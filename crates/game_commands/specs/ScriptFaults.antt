-- The meaning of an error of a script.
use Rattle.std.specs.Prelude.{◌≡◌, ℕ, ◌<◌, ◌≤◌, List, length, take, Option}
use Rattle.std.specs.Io.KnownBytes.{Appends, IsAtEnd}
use Rattle.game_core.specs.Counting.{Counting, one_more}
use Rattle.whole_streams.specs.Streams.{StopsReading}
use Rattle.command_faults.specs.declared.fault.Fault.{Fault}
use Rattle.command_faults.specs.declared.fault.Fault.TheVariants.{ReadFault, InputTooLong, Memory, WriteFault}

abbrev pub max_script : ℕ
max_script = 1048576

-- The meaning of an error, given the reader before and after, and the writer. This many bytes of the script were read,
-- and this is the output for them. Only a failed write leaves something written, namely a prefix of the output.
abbrev pub ScriptFails : {R W : Type 0} → (R → Option (List ℕ)) → (W → Option (List ℕ)) → List ℕ → Fault → ℕ → Counting R → Counting R → Counting W → Counting W → Type 0
ScriptFails remaining contents output ReadFault given reader reader' writer writer' = (given ≤ max_script) × StopsReading given reader reader' × (writer' ≡ writer)
ScriptFails remaining contents output InputTooLong given reader reader' writer writer' = (max_script < given) × (reader'.faults ≡ reader.faults) × (writer' ≡ writer)
ScriptFails remaining contents output Memory given reader reader' writer writer' = (given ≤ max_script) × (reader'.faults ≡ reader.faults) × (writer' ≡ writer)
ScriptFails remaining contents output WriteFault given reader reader' writer writer' =
    (reader'.faults ≡ reader.faults) × IsAtEnd (remaining reader'.stream) × (writer'.faults ≡ one_more writer.faults)
    × ((taken : ℕ) × (taken ≤ length output) × Appends (contents writer.stream) (contents writer'.stream) (take taken output))
ScriptFails remaining contents output fault given reader reader' writer writer' = ⊥
