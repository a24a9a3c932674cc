-- The program's error for an error of one of its parts.
use Rattle.std.specs.Prelude.{ℕ, Bool, true, false, if◌then◌else◌, Result, Ok, Err}
use Rattle.match_play.specs.declared.playing.MatchFault.{MatchFault}
use Rattle.match_play.specs.declared.playing.MatchFault.TheVariants.{Refused as MatchRefused, NotEnded, Shortage as MatchShortage, Memory as MatchMemory}
use Rattle.match_season.specs.declared.season_output.SeasonFault.{SeasonFault}
use Rattle.match_season.specs.declared.season_output.SeasonFault.TheVariants.{WriteFault as SeasonWriteFault, Memory as SeasonMemory}
use Rattle.player_commands.specs.declared.check.CheckFault.{CheckFault}
use Rattle.player_commands.specs.declared.check.CheckFault.TheVariants.{Match as CheckMatch, WriteFault as CheckWriteFault, Memory as CheckMemory}
use Rattle.desk_calls.specs.declared.call.Refusal.TheVariants.{BadId}
use Rattle.player_commands.specs.declared.fault.CommandFault.{CommandFault}
use Rattle.player_commands.specs.declared.fault.CommandFault.TheVariants.{BadId as CommandBadId, NoAnswer as CommandNoAnswer, NotSent as CommandNotSent, WriteFault as CommandWriteFault, Memory as CommandMemory}
use Rattle.command_line.specs.declared.tasks.MatchTask.{MatchTask}
use Rattle.command_line.specs.declared.tasks.MatchTask.TheVariants.{Check}
use Rattle.command_line.specs.declared.arguments.ArgumentFault.{ArgumentFault}
use Rattle.command_line.specs.declared.arguments.ArgumentFault.TheVariants.{Memory as ArgumentMemory}
use Rattle.command_faults.specs.declared.fault.Fault.{Fault}
use Rattle.command_faults.specs.declared.fault.Fault.TheVariants.{WrongUse, Memory, WriteFault, NoAnswer, NotSent, Refused, MatchNotEnded, Shortage, NoRecords, NotLawful, UnlawfulRecords, NoEntry, Differs, BadLines, BadAnswers}
use Rattle.command_faults.specs.Faults.{status_of as plain_status}

-- The error is a negative answer: the command has finished, and its check has failed.
abbrev pub is_no : Fault → Bool
is_no NoAnswer = true
is_no (NotLawful fault) = true
is_no (UnlawfulRecords count) = true
is_no (NoEntry number) = true
is_no (Differs number) = true
is_no (BadLines count) = true
is_no (BadAnswers count) = true
is_no fault = false

-- The exit status for an error. The Bool says whether the command line contains `--why` or `--json`.
abbrev pub status_of : Bool → Fault → ℕ
status_of false fault = plain_status fault
status_of true fault = if is_no fault then 1 else 2

abbrev pub argument_fault : ArgumentFault → Fault
argument_fault ArgumentMemory = Memory
argument_fault fault = WrongUse

abbrev pub match_fault : MatchFault → Fault
match_fault (MatchRefused refusal) = Refused refusal
match_fault NotEnded = MatchNotEnded
match_fault (MatchShortage shortage) = Shortage shortage
match_fault MatchMemory = Memory

abbrev pub season_fault : SeasonFault → Fault
season_fault SeasonWriteFault = WriteFault
season_fault SeasonMemory = Memory

abbrev pub check_fault : CheckFault → Fault
check_fault (CheckMatch fault) = match_fault fault
check_fault CheckWriteFault = WriteFault
check_fault CheckMemory = Memory

abbrev pub command_fault : CommandFault → Fault
command_fault CommandBadId = Refused BadId
command_fault CommandNoAnswer = NoAnswer
command_fault (CommandNotSent shortage) = NotSent shortage
command_fault CommandWriteFault = WriteFault
command_fault CommandMemory = Memory

-- the error of a task, given its number of matches without a record or of bad answers, or the error that ended it
abbrev pub task_fault : MatchTask → Result ℕ Fault → Fault
task_fault (Check plan) (Ok count) = BadAnswers count
task_fault task (Ok count) = NoRecords count
task_fault task (Err fault) = fault
