-- The program's error for an error of one of its parts, and its exit status.
use Rattle.std.specs.Prelude.{◌≡◌, ◌<◌, ◌⊎◌, ℕ}
use Rattle.std.specs.declared.io.ErrorKind.{ErrorKind}
use Rattle.std.specs.declared.io.ErrorKind.TheVariants.{NotFound, OutOfMemory}
use Rattle.match_plans.specs.declared.schedule_fault.ScheduleFault.{ScheduleFault}
use Rattle.match_plans.specs.declared.schedule_fault.ScheduleFault.TheVariants.{BadLine, Memory as ScheduleMemory}
use Rattle.record_reading.specs.declared.verify_fault.VerifyFault.{VerifyFault}
use Rattle.record_reading.specs.declared.verify_fault.VerifyFault.TheVariants.{Memory as CheckMemory}
use Rattle.whole_streams.specs.declared.whole.InputFault.{InputFault}
use Rattle.whole_streams.specs.declared.whole.InputFault.TheVariants.{ReadFault as InputReadFault, TooLong, Memory as InputMemory}
use Rattle.command_faults.specs.declared.fault.Fault.{Fault}
use Rattle.command_faults.specs.declared.fault.Fault.TheVariants.{WrongUse, Memory, File, ReadFault, InputTooLong, BadSchedule, NotLawful}
use Rattle.command_faults.specs.declared.files.NamedFile.{NamedFile}
use Rattle.command_faults.specs.declared.files.NamedFile.TheVariants.{Input}
use Rattle.command_faults.specs.declared.files.FileFault.{FileFault}
use Rattle.command_faults.specs.declared.files.FileFault.TheVariants.{NoFile, Unopened, Unread, TooLarge, TooLong as FileTooLong}
use Rattle.command_faults.specs.declared.files.MaxBytes.{MaxBytes}

abbrev pub input_fault : InputFault → Fault
input_fault InputReadFault = ReadFault
input_fault TooLong = InputTooLong
input_fault InputMemory = Memory

abbrev pub opening_fault : NamedFile → ErrorKind → Fault
opening_fault named OutOfMemory = Memory
opening_fault named NotFound = File named NoFile
opening_fault named kind = File named Unopened

abbrev pub reading_fault : NamedFile → InputFault → Fault
reading_fault named InputReadFault = File named Unread
reading_fault named TooLong = File named FileTooLong
reading_fault named InputMemory = Memory

-- turns an error of standard input into the same error of the input file
abbrev pub input_file_fault : Fault → Fault
input_file_fault ReadFault = File Input Unread
input_file_fault InputTooLong = File Input FileTooLong
input_file_fault fault = fault

-- the error is out of memory, or says why the file for this use cannot be read
abbrev pub IsFileFault : NamedFile → Fault → Type 0
IsFileFault named fault = (fault ≡ Memory) ⊎ ((why : FileFault) × (fault ≡ File named why))

-- If a file is refused for its size, the error gives its size and this limit. The size exceeds the limit.
abbrev pub NamesSize : MaxBytes → Fault → Type 0
NamesSize limit (File named (TooLarge size accepted)) = (accepted ≡ limit) × (limit.bytes < size)
NamesSize limit fault = Unit {0}

-- The error is not that a file is too large.
abbrev pub IsNotOfSize : Fault → Type 0
IsNotOfSize fault = (limit : MaxBytes) → NamesSize limit fault

abbrev pub verify_fault : VerifyFault → Fault
verify_fault CheckMemory = Memory
verify_fault fault = NotLawful fault

abbrev pub schedule_fault : ScheduleFault → Fault
schedule_fault (BadLine number why) = BadSchedule number why
schedule_fault ScheduleMemory = Memory

-- The exit status for an error.
abbrev pub status_of : Fault → ℕ
status_of WrongUse = 2
status_of Memory = 3
status_of fault = 1
