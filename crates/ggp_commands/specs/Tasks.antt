-- The input and the output of a task.
use Rattle.std.specs.Prelude.{◌≡◌, ◌≢◌, ◌⊎◌, ℕ, List, [], MatchOption, Option, false, Ok, string_bytes}
use Rattle.std.specs.Io.KnownBytes.{Appends, Consumes, IsAtEnd}
use Rattle.game_core.specs.Counting.{Counting}
use Rattle.match_plans.specs.declared.addresses.PlayerAddress.{PlayerAddress}
use Rattle.match_plans.specs.declared.reach.RolePlace.{RolePlace}
use Rattle.match_messages.specs.InfoReading.{info_reading}
use Rattle.match_messages.specs.Handing.{Handed}
use Rattle.match_play.specs.declared.playable_game.PlayableGame.{PlayableGame}
use Rattle.command_line.specs.declared.tasks.MatchTask.{MatchTask}
use Rattle.command_line.specs.declared.tasks.MatchTask.TheVariants.{Run, Season, Check}
use Rattle.command_line.specs.declared.tasks.GameOptions.{GameOptions}
use Rattle.command_line.specs.declared.tasks.Task.{Task}
use Rattle.command_line.specs.declared.tasks.Task.TheVariants.{Game, Host, Info, Abort, Serve, Show}
use Rattle.game_commands.specs.Commands.{AnswersInput, FailsInput, HasNoGame, HoldsOfGame}
use Rattle.command_faults.specs.Faults.{IsFileFault, input_fault}
use Rattle.command_faults.specs.declared.fault.Fault.{Fault}
use Rattle.command_faults.specs.declared.fault.Fault.TheVariants.{Memory, NoAnswer, WriteFault}
use Rattle.command_faults.specs.declared.files.NamedFile.TheVariants.{Input, Log}
use Rattle.whole_streams.specs.Streams.{AppendsPart}
use Rattle.whole_streams.specs.Streams.{InputFails}
use Rattle.whole_streams.specs.declared.whole.InputFault.{InputFault}
use Rattle.player_commands.specs.Checks.{EndsEarly, WritesCheck}
use Rattle.player_commands.specs.declared.check.CheckFault.{CheckFault}
use Rattle.player_commands.specs.declared.fault.CommandFault.{CommandFault}
use Rattle.player_commands.specs.Lines.{InfoFails, TellsAnswers, aborted_lines, info_line}
use Rattle.ggp_commands.specs.Faults.{check_fault, command_fault, task_fault}
use Rattle.ggp_commands.specs.LoadedGame.{IsNotLoadedGame, IsLoadedGame}
use Rattle.ggp_commands.specs.Runs.{WritesRun, WritesRunUpTo}
use Rattle.ggp_commands.specs.Schedules.{WritesSeason, WritesSeasonUpTo}

-- The task wrote the output of its match, of each match to play except the missing ones, or the table of its check. `count` is the number
-- of missing matches, or of bad answers in the table.
abbrev pub WritesTask : (H : Type 0) → {P : Type 0} → (RolePlace → PlayerAddress → P → Type 0) → (P → Option (List Handed)) → PlayableGame → MatchTask → List ℕ → ℕ → Option (List ℕ) → Option (List ℕ) → Type 0
WritesTask H is_reached handed game (Run run) input count old new = (count ≡ 0) × WritesRun is_reached handed game run old new
WritesTask H is_reached handed game (Season season) input count old new = WritesSeason is_reached handed game season input count old new
WritesTask H is_reached handed game (Check plan) input count old new = WritesCheck H is_reached handed game plan count old new

-- The output of a task that ended with this error.
abbrev pub WritesTaskUpTo : (H : Type 0) → {P : Type 0} → (RolePlace → PlayerAddress → P → Type 0) → (P → Option (List Handed)) → PlayableGame → MatchTask → List ℕ → Option (List ℕ) → Option (List ℕ) → Fault → Type 0
WritesTaskUpTo H is_reached handed game (Run run) input old new fault = WritesRunUpTo is_reached handed game run old new fault
WritesTaskUpTo H is_reached handed game (Season season) input old new fault = WritesSeasonUpTo is_reached handed game season input old new fault
WritesTaskUpTo H is_reached handed game (Check plan) input old new fault = (why : CheckFault) × (fault ≡ check_fault why) × EndsEarly H is_reached handed game plan why old new

-- The task ended with this error: memory ran out before it began, or the error came later.
abbrev pub EndsTask : (H : Type 0) → {P : Type 0} → (RolePlace → PlayerAddress → P → Type 0) → (P → Option (List Handed)) → PlayableGame → MatchTask → List ℕ → Option (List ℕ) → Option (List ℕ) → Fault → Type 0
EndsTask H is_reached handed game task input old new fault = ((fault ≡ Memory) × (new ≡ old)) ⊎ WritesTaskUpTo H is_reached handed game task input old new fault

-- This is the input of a task. The input of a season is the whole schedule. If a file is named for the schedule, the schedule may be any
-- text, and the reader stays unchanged. Other tasks read nothing.
abbrev pub ReadsInput : {R : Type 0} → (R → Option (List ℕ)) → MatchTask → List ℕ → Counting R → Counting R → Type 0
ReadsInput remaining (Season season) input reader reader' =
    MatchOption season.schedule (Consumes (remaining reader.stream) (remaining reader'.stream) input × IsAtEnd (remaining reader'.stream)) (λ path. reader' ≡ reader)
ReadsInput remaining task input reader reader' = (input ≡ []) × (reader' ≡ reader)

abbrev pub max_schedule : ℕ
max_schedule = 16777216

-- Why the input of a task cannot be read. Only a season has an input.
abbrev pub HasNoInput : {R : Type 0} → (R → Option (List ℕ)) → MatchTask → Fault → Counting R → Counting R → Type 0
HasNoInput remaining (Season season) fault reader reader' = MatchOption season.schedule
    ((why : InputFault) × (given : List ℕ) × (fault ≡ input_fault why)
    × Consumes (remaining reader.stream) (remaining reader'.stream) given × InputFails max_schedule why given reader reader')
    (λ path. IsFileFault Input fault × (reader' ≡ reader))
HasNoInput remaining task fault reader reader' = ⊥

-- Why there is no log: the named file cannot be opened.
abbrev pub HasNoLog : {F : Type 0} → Option F → Fault → Type 0
HasNoLog log fault = MatchOption log ⊥ (λ file. IsFileFault Log fault)

-- Why a task did not begin: it has no game with rules for its players, no log, or no input.
abbrev pub IsNotBegun : {R : Type 0} → (R → Option (List ℕ)) → GameOptions → MatchTask → Fault → Counting R → Counting R → Type 0
IsNotBegun remaining plan task fault reader reader' =
    ((IsNotLoadedGame plan fault ⊎ HasNoLog plan.log fault) × (reader' ≡ reader)) ⊎ HasNoInput remaining task fault reader reader'

-- The task was run on its game and its input. `count` is the number of missing matches, or of bad answers.
abbrev pub Plays : (H : Type 0) → {P R W : Type 0} → (RolePlace → PlayerAddress → P → Type 0) → (P → Option (List Handed)) → (R → Option (List ℕ)) → (W → Option (List ℕ)) → GameOptions → MatchTask → Counting R → Counting R → Counting W → Counting W → ℕ → Type 0
Plays H is_reached handed remaining contents plan task reader reader' writer writer' count = (game : PlayableGame) × (input : List ℕ)
    × IsLoadedGame plan game.game.now game.rules.now × ReadsInput remaining task input reader reader'
    × WritesTask H is_reached handed game task input count (contents writer.stream) (contents writer'.stream)

-- Why the task was not run, or did not succeed. If it has no game, no log or no input, it did not begin and wrote nothing. Otherwise the
-- error gives the number of missing matches or of bad answers, or the task ended with this error.
abbrev pub FailsToPlay : (H : Type 0) → {P R W : Type 0} → (RolePlace → PlayerAddress → P → Type 0) → (P → Option (List Handed)) → (R → Option (List ℕ)) → (W → Option (List ℕ)) → GameOptions → MatchTask → Counting R → Counting R → Counting W → Counting W → Fault → Type 0
FailsToPlay H is_reached handed remaining contents plan task reader reader' writer writer' fault = (IsNotBegun remaining plan task fault reader reader' × (writer' ≡ writer))
    ⊎ (((count : ℕ) × (count ≢ 0) × (fault ≡ task_fault task (Ok count)) × Plays H is_reached handed remaining contents plan task reader reader' writer writer' count)
    ⊎ ((game : PlayableGame) × (input : List ℕ) × IsLoadedGame plan game.game.now game.rules.now × ReadsInput remaining task input reader reader'
    × EndsTask H is_reached handed game task input (contents writer.stream) (contents writer'.stream) fault))

-- The input and the output of a task that succeeded.
abbrev pub Performs : (H : Type 0) → {P R F W : Type 0} → (RolePlace → PlayerAddress → P → Type 0) → (P → Option (List Handed)) → (R → Option (List ℕ)) → (F → Option (List ℕ)) → (W → Option (List ℕ)) → Task → Counting R → Counting R → Counting W → Counting W → Type 0
Performs H is_reached handed remaining file_remaining contents (Show text) reader reader' writer writer' = (reader' ≡ reader) × Appends (contents writer.stream) (contents writer'.stream) (string_bytes text)
Performs H is_reached handed remaining file_remaining contents (Game request) reader reader' writer writer' =
    HoldsOfGame request.task.game (λ _ _ _ rules game. AnswersInput remaining file_remaining contents rules game request reader reader' writer writer')
Performs H is_reached handed remaining file_remaining contents (Info plan) reader reader' writer writer' =
    (reader' ≡ reader) × ((answer : List ℕ) × Appends (contents writer.stream) (contents writer'.stream) (info_line plan.is_json plan.player.name.now (info_reading answer)))
Performs H is_reached handed remaining file_remaining contents (Abort plan) reader reader' writer writer' =
    (reader' ≡ reader) × Appends (contents writer.stream) (contents writer'.stream) (aborted_lines plan.is_json plan.players.items)
Performs H is_reached handed remaining file_remaining contents (Host plan task) reader reader' writer writer' = Plays H is_reached handed remaining contents plan task reader reader' writer writer' 0
-- The calls and replies of a desk that listens go over connections: see `serve_desk` and `converse` of `desk_service`.
Performs H is_reached handed remaining file_remaining contents (Serve plan) reader reader' writer writer' = Unit {0}

-- The input and the output of a task that ended with this error.
abbrev pub Fails : (H : Type 0) → {P R F W : Type 0} → (RolePlace → PlayerAddress → P → Type 0) → (P → Option (List Handed)) → (R → Option (List ℕ)) → (F → Option (List ℕ)) → (W → Option (List ℕ)) → Task → Counting R → Counting R → Counting W → Counting W → Fault → Type 0
Fails H is_reached handed remaining file_remaining contents (Show text) reader reader' writer writer' fault =
    (reader' ≡ reader) × (fault ≡ WriteFault) × AppendsPart (contents writer.stream) (contents writer'.stream) (string_bytes text)
Fails H is_reached handed remaining file_remaining contents (Game request) reader reader' writer writer' fault =
    (HasNoGame request.task.game fault × (reader' ≡ reader) × (writer' ≡ writer))
    ⊎ HoldsOfGame request.task.game (λ _ _ _ rules game. FailsInput remaining file_remaining contents rules game request fault reader reader' writer writer')
Fails H is_reached handed remaining file_remaining contents (Info plan) reader reader' writer writer' fault = (reader' ≡ reader)
    × ((why : CommandFault) × (fault ≡ command_fault why) × InfoFails contents plan.is_json plan.player.name.now why writer writer')
Fails H is_reached handed remaining file_remaining contents (Abort plan) reader reader' writer writer' fault =
    (reader' ≡ reader) × (fault ≡ NoAnswer → TellsAnswers plan.is_json plan.players.items false (contents writer.stream) (contents writer'.stream))
Fails H is_reached handed remaining file_remaining contents (Host plan task) reader reader' writer writer' fault = FailsToPlay H is_reached handed remaining contents plan task reader reader' writer writer' fault
Fails H is_reached handed remaining file_remaining contents (Serve plan) reader reader' writer writer' fault = Unit {0}
