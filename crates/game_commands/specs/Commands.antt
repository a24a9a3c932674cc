-- A command for one game: its output for an input, and the meaning of its errors.
use Rattle.std.specs.Prelude.{◌≡◌, ◌≢◌, ℕ, ◌≤◌, Bool, true, false, List, [], ◌∷◌, length, MatchOption, Option, ◌⊎◌}
use Rattle.std.specs.Io.KnownBytes.{Consumes}
use Rattle.std.specs.Str.Lines.{lines}
use Rattle.game_core.specs.Counting.{Counting}
use Rattle.game_core.specs.Countdown.{countdown, max_heap}
use Rattle.game_core.specs.declared.countdown.Countdown.{Countdown}
use Rattle.game_core.specs.Play.{Rules}
use Rattle.game_core.specs.declared.limits.Limits.{Limits}
use Rattle.game_core.specs.declared.limits.Limits.TheVariants.{Usual}
use Rattle.ground_rules.specs.LoadedGame.{loaded_game}
use Rattle.packed_rules.specs.PackedGames.{tables_of}
use Rattle.packed_rules.specs.declared.packed_game.PackedGame.{PackedGame}
use Rattle.described_games.specs.CountdownText.{countdown_text}
use Rattle.described_games.specs.Games.{IsDescribed, DescribesNone}
use Rattle.record_reading.specs.LawfulRecord.{IsLawfulRecord}
use Rattle.game_commands.specs.Script.{bad_lines, script_output}
use Rattle.match_plans.specs.declared.game_source.GameCommand.{GameCommand}
use Rattle.command_line.specs.declared.tasks.GameRequest.{GameRequest}
use Rattle.match_plans.specs.declared.game_source.GameCommand.TheVariants.{Desk, Verify, VerifyLines, Replay}
use Rattle.match_plans.specs.declared.game_source.GameSource.{GameSource}
use Rattle.match_plans.specs.declared.game_source.GameSource.TheVariants.{Countdown as OfCountdown, Described}
use Rattle.match_plans.specs.declared.game_source.RulesSource.{RulesSource}
use Rattle.match_plans.specs.declared.game_source.RulesSource.TheVariants.{Text, File}
use Rattle.command_faults.specs.declared.fault.Fault.{Fault}
use Rattle.command_faults.specs.declared.fault.Fault.TheVariants.{WrongUse, Memory, BadDescription, BadLines, UnlawfulRecords}
use Rattle.command_faults.specs.declared.files.NamedFile.TheVariants.{Input, Rules as RulesFile}
use Rattle.game_commands.specs.declared.verdicts.Verdict.{Verdict}
use Rattle.command_faults.specs.Faults.{IsFileFault, input_file_fault}
use Rattle.whole_streams.specs.Lines.{BeginsWithLines}
use Rattle.game_commands.specs.ScriptFaults.{ScriptFails}
use Rattle.game_commands.specs.Interactive.{InteractiveFails}
use Rattle.game_commands.specs.declared.verdicts.Verdict.TheVariants.{Lawful}
use Rattle.game_commands.specs.Verdicts.{AreVerdicts, verdict_line, verdict_lines, count_unlawful}
use Rattle.game_commands.specs.Replays.{accounts, AreReplayed, ReplayFails}
use Rattle.game_commands.specs.Whole.{ReadsAndWrites}
use Rattle.game_commands.specs.Checks.{CheckFails, CheckStops}

-- ---- the output of a command

-- The output for an input, and how many lines of the input have errors: the bad lines of a script, or the lines that are not lawful
-- records.
abbrev pub IsOutput : {G S M : Type 0} → Bool → (G → Rules S M) → G → GameCommand → List ℕ → List ℕ → ℕ → Type 0
IsOutput is_json rules game Desk input output wrong = (output ≡ script_output rules (game ∷ []) input) × (wrong ≡ bad_lines (lines input))
IsOutput is_json rules game Verify input output wrong = IsLawfulRecord (rules game) input × (output ≡ verdict_line is_json Lawful) × (wrong ≡ 0)
IsOutput is_json rules game VerifyLines input output wrong =
    (verdicts : List Verdict) × AreVerdicts (rules game) (lines input) verdicts × (output ≡ verdict_lines is_json verdicts) × (wrong ≡ count_unlawful verdicts)
IsOutput is_json rules game Replay input output wrong = (wrong ≡ 0) × AreReplayed is_json rules (game ∷ []) (accounts input) output

-- the whole input was read, and the output for it was written; this many lines of the input have errors
abbrev pub Answers : {G S M R W : Type 0} → (R → Option (List ℕ)) → (W → Option (List ℕ)) → Bool → (G → Rules S M) → G → GameCommand → ℕ → Counting R → Counting R → Counting W → Counting W → Type 0
Answers remaining contents is_json rules game command wrong reader reader' writer writer' =
    (input output : List ℕ) × ReadsAndWrites remaining contents input output reader reader' writer writer' × IsOutput is_json rules game command input output wrong

-- ---- the errors of a command

-- the error that reports how many lines of the input have errors
abbrev pub TellsNumber : GameCommand → ℕ → Fault → Type 0
TellsNumber Desk wrong fault = fault ≡ BadLines wrong
TellsNumber VerifyLines wrong fault = fault ≡ UnlawfulRecords wrong
TellsNumber _ wrong fault = ⊥

-- the meaning of an error of a desk, after these bytes were read
abbrev pub DeskFails : {G S M R W : Type 0} → (R → Option (List ℕ)) → (W → Option (List ℕ)) → Bool → (G → Rules S M) → List G → Fault → List ℕ → Counting R → Counting R → Counting W → Counting W → Type 0
DeskFails remaining contents true rules games fault given reader reader' writer writer' = InteractiveFails remaining contents rules games fault given reader reader' writer writer'
DeskFails remaining contents false rules games fault given reader reader' writer writer' =
    ScriptFails remaining contents (script_output rules games given) fault (length given) reader reader' writer writer'

-- the meaning of an error that stopped the command
abbrev pub Stops : {G S M R W : Type 0} → (R → Option (List ℕ)) → (W → Option (List ℕ)) → Bool → Bool → (G → Rules S M) → G → GameCommand → List ℕ → Fault → Counting R → Counting R → Counting W → Counting W → Type 0
Stops remaining contents is_interactive is_json rules game Desk given fault reader reader' writer writer' = DeskFails remaining contents is_interactive rules (game ∷ []) fault given reader reader' writer writer'
Stops remaining contents is_interactive is_json rules game Verify given fault reader reader' writer writer' = CheckFails remaining contents is_json (rules game) fault given reader reader' writer writer'
Stops remaining contents is_interactive is_json rules game VerifyLines given fault reader reader' writer writer' =
    (first : List (List ℕ)) × (left : List ℕ) × (verdicts : List Verdict) × BeginsWithLines given first left × AreVerdicts (rules game) first verdicts
    × CheckStops remaining contents is_json (rules game) fault verdicts left reader reader' writer writer'
Stops remaining contents is_interactive is_json rules game Replay given fault reader reader' writer writer' = ReplayFails contents is_json rules (game ∷ []) given fault reader reader' writer writer'

-- The error reports how many lines of the input have errors, after the whole output was written; or it stopped the command.
abbrev pub Fails : {G S M R W : Type 0} → (R → Option (List ℕ)) → (W → Option (List ℕ)) → GameRequest → (G → Rules S M) → G → Fault → Counting R → Counting R → Counting W → Counting W → Type 0
Fails remaining contents request rules game fault reader reader' writer writer' =
    ((wrong : ℕ) × (wrong ≢ 0) × TellsNumber request.task.command wrong fault × Answers remaining contents request.is_json rules game request.task.command wrong reader reader' writer writer')
    ⊎ ((given : List ℕ) × Consumes (remaining reader.stream) (remaining reader'.stream) given
    × Stops remaining contents request.is_interactive request.is_json rules game request.task.command given fault reader reader' writer writer')

-- ---- the input of a command

-- The whole input was read, and the output for it was written. If a file is named, the input is the content of the file, which may be any
-- bytes, and the reader stays unchanged.
abbrev pub AnswersInput : {G S M R F W : Type 0} → (R → Option (List ℕ)) → (F → Option (List ℕ)) → (W → Option (List ℕ)) → (G → Rules S M) → G → GameRequest → Counting R → Counting R → Counting W → Counting W → Type 0
AnswersInput remaining file_remaining contents rules game request reader reader' writer writer' =
    MatchOption request.task.file (Answers remaining contents request.is_json rules game request.task.command 0 reader reader' writer writer')
    (λ path. (reader' ≡ reader) × ((opened : Counting _) × (read : Counting _) × Answers file_remaining contents request.is_json rules game request.task.command 0 opened read writer writer'))

-- The meaning of an error for the input. If a file is named, there are two cases: the file cannot be opened, and nothing was
-- written; or the error is the error of the command on the bytes of the file, turned into an error of the file.
abbrev pub FailsInput : {G S M R F W : Type 0} → (R → Option (List ℕ)) → (F → Option (List ℕ)) → (W → Option (List ℕ)) → (G → Rules S M) → G → GameRequest → Fault → Counting R → Counting R → Counting W → Counting W → Type 0
FailsInput remaining file_remaining contents rules game request fault reader reader' writer writer' =
    MatchOption request.task.file (Fails remaining contents request rules game fault reader reader' writer writer')
    (λ path. (reader' ≡ reader) × ((IsFileFault Input fault × (writer' ≡ writer))
    ⊎ ((why : Fault) × (fault ≡ input_file_fault why)
    × ((opened : Counting _) × (read : Counting _) × Fails file_remaining contents request rules game why opened read writer writer'))))

-- ---- the game of a source

-- this is the text of the source; the text of a file may be any text
abbrev pub IsTextOf : RulesSource → List ℕ → Type 0
IsTextOf (Text rules) text = text ≡ rules.now
IsTextOf (File path) text = Unit {0}

-- the error if the text of a source cannot be read; this can only be the text of a file
abbrev pub HasNoText : RulesSource → Fault → Type 0
HasNoText (Text rules) fault = ⊥
HasNoText (File path) fault = IsFileFault RulesFile fault

-- the limits for the description of a source; the usual limits for Countdown
abbrev pub limits_of : GameSource → Limits
limits_of (OfCountdown size) = Usual
limits_of (Described source limits) = limits

abbrev pub HoldsOfGame : GameSource → ((G S M : Type 0) → (G → Rules S M) → G → Type 0) → Type 0
HoldsOfGame (OfCountdown size) Holds = (game : Countdown) × (game.size ≡ size) × Holds _ _ _ (λ g. countdown g.size) game
HoldsOfGame (Described source limits) Holds = (text : List ℕ) × (game : PackedGame) × IsTextOf source text × IsDescribed limits text game × Holds _ _ _ (λ g. loaded_game (tables_of g)) game

-- unless memory runs out, the error for a text that does not describe a game within these limits
abbrev pub IsRefused : Limits → List ℕ → Fault → Type 0
IsRefused limits text fault = (fault ≡ Memory) ⊎ ((fault ≡ BadDescription) × DescribesNone limits text)

-- unless memory runs out, the error for a source that gives no game
abbrev pub HasNoGame : GameSource → Fault → Type 0
HasNoGame (OfCountdown size) fault = (fault ≡ WrongUse) × ¬ ((1 ≤ size) × (size ≤ max_heap))
HasNoGame (Described source limits) fault = HasNoText source fault ⊎ ((text : List ℕ) × IsTextOf source text × IsRefused limits text fault)

-- the error if a source gives no text of the rules for players
abbrev pub HasNoSourceText : GameSource → Fault → Type 0
HasNoSourceText (OfCountdown size) fault = (fault ≡ Memory) ⊎ HasNoGame (OfCountdown size) fault
HasNoSourceText (Described source limits) fault = HasNoText source fault

-- the text of a game's rules for players: the text of the source, or Countdown's rules
abbrev pub IsSourceText : GameSource → List ℕ → Type 0
IsSourceText (OfCountdown size) text = text ≡ countdown_text size
IsSourceText (Described source limits) text = IsTextOf source text
