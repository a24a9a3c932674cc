-- The meaning of an error of an interactive desk. The desk writes the answer to each line before it reads the next line.
use Rattle.std.specs.Prelude.{◌≡◌, ◌⊎◌, ℕ, ◌<◌, ◌≤◌, List, [], ◌∷◌, ◌++◌, length, take, Option}
use Rattle.std.specs.Io.KnownBytes.{Appends, IsAtEnd}
use Rattle.std.specs.Str.Lines.{lines}
use Rattle.game_core.specs.Counting.{Counting, last_count, one_more}
use Rattle.game_core.specs.Play.{Rules}
use Rattle.match_desk.specs.Steps.{reply, after}
use Rattle.desk_text.specs.Account.{no_matches}
use Rattle.whole_streams.specs.Streams.{StopsReading}
use Rattle.whole_streams.specs.Lines.{BeginsWithLines}
use Rattle.command_faults.specs.declared.fault.Fault.{Fault}
use Rattle.command_faults.specs.declared.fault.Fault.TheVariants.{ReadFault, InputTooLong, Memory, WriteFault}
use Rattle.game_commands.specs.Checks.{HasFirstLine, HasOpenLine}
use Rattle.game_commands.specs.Script.{answer_lines, script_output}
use Rattle.game_commands.specs.ScriptFaults.{max_script}

abbrev pub Writes : {W : Type 0} → (W → Option (List ℕ)) → List ℕ → Counting W → Counting W → Type 0
Writes contents text writer writer' = Appends (contents writer.stream) (contents writer'.stream) text × (writer'.faults ≡ writer.faults)

-- `done` was written, then a prefix of the rest of `text`, and then a write failed
abbrev pub WritesPart : {W : Type 0} → (W → Option (List ℕ)) → List ℕ → List ℕ → Counting W → Counting W → Type 0
WritesPart contents done text writer writer' = (writer'.faults ≡ one_more writer.faults)
    × ((rest : List ℕ) × (text ≡ done ++ rest) × ((taken : ℕ) × (taken ≤ length rest) × Appends (contents writer.stream) (contents writer'.stream) (done ++ take taken rest)))

-- why only `done`, or only a prefix of `text`, was written; `done` is a prefix of `text`
abbrev pub StopsWriting : {W : Type 0} → (W → Option (List ℕ)) → List ℕ → List ℕ → Fault → Counting W → Counting W → Type 0
StopsWriting contents done text fault writer writer' = ((fault ≡ Memory) × Writes contents done writer writer') ⊎ ((fault ≡ WriteFault) × WritesPart contents done text writer writer')

-- The meaning of an error, given the streams before and after. The first lines were answered, and these bytes are left.
-- `answers` computes the answers to lines.
abbrev pub StopsAnswering : {R W : Type 0} → (R → Option (List ℕ)) → (W → Option (List ℕ)) → (List (List ℕ) → List ℕ) → Fault → List (List ℕ) → List ℕ → Counting R → Counting R → Counting W → Counting W → Type 0
StopsAnswering remaining contents answers ReadFault first left reader reader' writer writer' =
    HasOpenLine left (λ count. (count ≤ max_script) × StopsReading count reader reader') × Writes contents (answers first) writer writer'
StopsAnswering remaining contents answers InputTooLong first left reader reader' writer writer' =
    (HasOpenLine left (λ count. max_script < count) ⊎ (last_count ≤ length first)) × (reader'.faults ≡ reader.faults) × Writes contents (answers first) writer writer'
StopsAnswering remaining contents answers Memory first left reader reader' writer writer' = (reader'.faults ≡ reader.faults) × Writes contents (answers first) writer writer'
StopsAnswering remaining contents answers WriteFault first left reader reader' writer writer' =
    (reader'.faults ≡ reader.faults) × ((line : List ℕ) × HasFirstLine (remaining reader'.stream) left line × WritesPart contents (answers first) (answers (first ++ line ∷ [])) writer writer')
StopsAnswering remaining contents answers fault first left reader reader' writer writer' = ⊥

-- The meaning of an error of an interactive desk, after these bytes were read: it stopped the answers, or the records that follow them.
abbrev pub InteractiveFails : {G S M R W : Type 0} → (R → Option (List ℕ)) → (W → Option (List ℕ)) → (G → Rules S M) → List G → Fault → List ℕ → Counting R → Counting R → Counting W → Counting W → Type 0
InteractiveFails remaining contents rules games fault given reader reader' writer writer' =
    ((first : List (List ℕ)) × (left : List ℕ) × BeginsWithLines given first left
    × StopsAnswering remaining contents (answer_lines (reply rules) (after rules) (no_matches games)) fault first left reader reader' writer writer')
    ⊎ (IsAtEnd (remaining reader'.stream) × (reader'.faults ≡ reader.faults)
    × StopsWriting contents (answer_lines (reply rules) (after rules) (no_matches games) (lines given)) (script_output rules games given) fault writer writer')
