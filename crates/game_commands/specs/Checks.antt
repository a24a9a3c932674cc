-- The output of checking records, and the meaning of its errors.
use Rattle.std.specs.Prelude.{◌≡◌, ℕ, ◌<◌, ◌≤◌, Bool, true, false, List, [], ◌++◌, length, take, ◌⊎◌, Option}
use Rattle.std.specs.Io.KnownBytes.{Appends, IsAtEnd}
use Rattle.std.specs.Str.Lines.{lines}
use Rattle.game_core.specs.Counting.{Counting, last_count, one_more}
use Rattle.game_core.specs.Play.{Rules}
use Rattle.match_record.specs.LawfulRecord.{IsLawfulRecord}
use Rattle.record_check.specs.Verified.{FailsFirst}
use Rattle.command_faults.specs.Limits.{max_line}
use Rattle.record_reading.specs.declared.verify_fault.VerifyFault.{VerifyFault}
use Rattle.game_commands.specs.declared.verdicts.Verdict.{Verdict}
use Rattle.game_commands.specs.declared.verdicts.Verdict.TheVariants.{Lawful, Unlawful}
use Rattle.whole_streams.specs.Streams.{StopsReading}
use Rattle.whole_streams.specs.Lines.{HasNoLineFeed, BeginsWithLine}
use Rattle.game_commands.specs.Verdicts.{IsVerdict, verdict_line, verdict_lines}
use Rattle.command_faults.specs.declared.fault.Fault.{Fault}
use Rattle.command_faults.specs.declared.fault.Fault.TheVariants.{ReadFault, InputTooLong, Memory, NotLawful, WriteFault}

-- the largest size of a record, if the input is one record
abbrev pub max_record : ℕ
max_record = 16777216

-- the verdict is written; in plain text, only if the record is lawful
abbrev pub IsWritten : {S M : Type 0} → Bool → Rules S M → List ℕ → Verdict → Type 0
IsWritten is_json g given Lawful = IsLawfulRecord g given
IsWritten true g given (Unlawful fault) = (¬ IsLawfulRecord g given) × FailsFirst g given fault
IsWritten is_json g given verdict = ⊥

abbrev pub TellsUnlawful : {W : Type 0} → (W → Option (List ℕ)) → Bool → VerifyFault → Counting W → Counting W → Type 0
TellsUnlawful contents false fault writer writer' = writer' ≡ writer
TellsUnlawful contents true fault writer writer' = Appends (contents writer.stream) (contents writer'.stream) (verdict_line true (Unlawful fault)) × (writer'.faults ≡ writer.faults)

-- why a verdict was not written: memory ran out, or only a prefix of it was written
abbrev pub IsNotWritten : {W : Type 0} → (W → Option (List ℕ)) → Bool → Verdict → Fault → Counting W → Counting W → Type 0
IsNotWritten contents is_json verdict fault writer writer' = ((fault ≡ Memory) × (writer' ≡ writer))
    ⊎ ((fault ≡ WriteFault) × (writer'.faults ≡ one_more writer.faults) × ((taken : ℕ) × (taken ≤ length (verdict_line is_json verdict))
    × Appends (contents writer.stream) (contents writer'.stream) (take taken (verdict_line is_json verdict))))

-- The error says that a record is not lawful, and the verdict was written first; or the error says why the verdict could not be written.
abbrev pub TellsFault : {W : Type 0} → (W → Option (List ℕ)) → Bool → VerifyFault → Fault → Counting W → Counting W → Type 0
TellsFault contents is_json fault told writer writer' = ((told ≡ NotLawful fault) × TellsUnlawful contents is_json fault writer writer')
    ⊎ ((is_json ≡ true) × IsNotWritten contents true (Unlawful fault) told writer writer')

-- The meaning of an error, given the bytes that were read, the reader before and after, and the writer. Nothing is written except
-- a verdict, or, if the write fails, a prefix of the verdict. A record is checked only after the whole record was read.
abbrev pub CheckFails : {S M R W : Type 0} → (R → Option (List ℕ)) → (W → Option (List ℕ)) → Bool → Rules S M → Fault → List ℕ → Counting R → Counting R → Counting W → Counting W → Type 0
CheckFails remaining contents is_json g ReadFault given reader reader' writer writer' = (length given ≤ max_record) × StopsReading (length given) reader reader' × (writer' ≡ writer)
CheckFails remaining contents is_json g InputTooLong given reader reader' writer writer' = (max_record < length given) × (reader'.faults ≡ reader.faults) × (writer' ≡ writer)
CheckFails remaining contents is_json g Memory given reader reader' writer writer' = (length given ≤ max_record) × (reader'.faults ≡ reader.faults) × (writer' ≡ writer)
CheckFails remaining contents is_json g (NotLawful fault) given reader reader' writer writer' =
    (length given ≤ max_record) × (reader'.faults ≡ reader.faults) × TellsUnlawful contents is_json fault writer writer' × IsAtEnd (remaining reader'.stream) × (¬ IsLawfulRecord g given) × FailsFirst g given fault
CheckFails remaining contents is_json g WriteFault given reader reader' writer writer' =
    (reader'.faults ≡ reader.faults) × (writer'.faults ≡ one_more writer.faults) × IsAtEnd (remaining reader'.stream)
    × ((verdict : Verdict) × (taken : ℕ) × IsWritten is_json g given verdict × (taken ≤ length (verdict_line is_json verdict))
    × Appends (contents writer.stream) (contents writer'.stream) (take taken (verdict_line is_json verdict)))
CheckFails remaining contents is_json g fault given reader reader' writer writer' = ⊥

-- the first line of these bytes, which may be a last line without a line feed
abbrev pub HasFirstLine : Option (List ℕ) → List ℕ → List ℕ → Type 0
HasFirstLine remaining bytes line = ((left : List ℕ) × BeginsWithLine bytes line left) ⊎ ((0 < length bytes) × HasNoLineFeed bytes × (line ≡ bytes) × IsAtEnd remaining)

-- the bytes begin with a line that has not ended, and its length so far has this property
abbrev pub HasOpenLine : List ℕ → (ℕ → Type 0) → Type 0
HasOpenLine bytes IsLength = (part rest : List ℕ) × (bytes ≡ part ++ rest) × HasNoLineFeed part × IsLength (length part)

abbrev pub TellsVerdicts : {W : Type 0} → (W → Option (List ℕ)) → Bool → List Verdict → Counting W → Counting W → Type 0
TellsVerdicts contents is_json verdicts writer writer' = Appends (contents writer.stream) (contents writer'.stream) (verdict_lines is_json verdicts) × (writer'.faults ≡ writer.faults)

-- these verdicts were written, then a prefix of the verdict on this line, and then a write failed
abbrev pub TellsPart : {S M W : Type 0} → (W → Option (List ℕ)) → Bool → Rules S M → List Verdict → List ℕ → Counting W → Counting W → Type 0
TellsPart contents is_json g verdicts line writer writer' = (writer'.faults ≡ one_more writer.faults)
    × ((verdict : Verdict) × (taken : ℕ) × IsVerdict g line verdict × (taken ≤ length (verdict_line is_json verdict))
    × Appends (contents writer.stream) (contents writer'.stream) (verdict_lines is_json verdicts ++ take taken (verdict_line is_json verdict)))

-- the meaning of an error that occurs while the verdict on this line is written
abbrev pub LineFails : {S M W : Type 0} → (W → Option (List ℕ)) → Bool → Rules S M → Fault → List ℕ → Counting W → Counting W → Type 0
LineFails contents is_json g fault line writer writer' = ((fault ≡ Memory) × (writer' ≡ writer)) ⊎ ((fault ≡ WriteFault) × TellsPart contents is_json g [] line writer writer')

-- The meaning of an error, given the streams before and after. The first lines got these verdicts, and these bytes are
-- left. Reading stops at a line that is too long, or after 2^64 - 1 lines.
abbrev pub CheckStops : {S M R W : Type 0} → (R → Option (List ℕ)) → (W → Option (List ℕ)) → Bool → Rules S M → Fault → List Verdict → List ℕ → Counting R → Counting R → Counting W → Counting W → Type 0
CheckStops remaining contents is_json g ReadFault verdicts left reader reader' writer writer' =
    HasOpenLine left (λ count. (count ≤ max_line) × StopsReading count reader reader') × TellsVerdicts contents is_json verdicts writer writer'
CheckStops remaining contents is_json g InputTooLong verdicts left reader reader' writer writer' =
    (HasOpenLine left (λ count. max_line < count) ⊎ (last_count ≤ length verdicts)) × (reader'.faults ≡ reader.faults) × TellsVerdicts contents is_json verdicts writer writer'
CheckStops remaining contents is_json g Memory verdicts left reader reader' writer writer' = (reader'.faults ≡ reader.faults) × TellsVerdicts contents is_json verdicts writer writer'
CheckStops remaining contents is_json g WriteFault verdicts left reader reader' writer writer' =
    (reader'.faults ≡ reader.faults) × ((line : List ℕ) × HasFirstLine (remaining reader'.stream) left line × TellsPart contents is_json g verdicts line writer writer')
CheckStops remaining contents is_json g fault verdicts left reader reader' writer writer' = ⊥
