-- The output for replayed call logs, and why a call log is refused.
use Rattle.std.specs.Prelude.{◌≡◌, ◌≢◌, ◌==◌, ◌⊎◌, ◌≤◌, ◌<◌, ◌+◌, ℕ, zero, suc, Bool, true, false, not, ◌&&◌, if◌then◌else◌, List, [], ◌∷◌, ◌++◌, codes, count_by, filter, length, sum_by, take, Option, option_map, unwrap_or}
use Rattle.std.specs.Fmt.{decimal}
use Rattle.std.specs.Io.KnownBytes.{Appends}
use Rattle.std.specs.Str.Lines.{lines}
use Rattle.game_core.specs.Bytes.{line_feed}
use Rattle.game_core.specs.Counting.{Counting, last_count, one_more}
use Rattle.game_core.specs.Play.{Rules}
use Rattle.desk_calls.specs.Phases.{is_last}
use Rattle.match_book.specs.Phase.{status}
use Rattle.match_desk.specs.ManagerValue.{ManagerValue, DeskMatch, game_match}
use Rattle.match_desk.specs.Steps.{reply, after}
use Rattle.desk_text.specs.Account.{IsAccount, no_matches}
use Rattle.desk_text.specs.Replaying.{IsFirstFault}
use Rattle.desk_text.specs.declared.replaying.ReplayFault.{ReplayFault}
use Rattle.desk_text.specs.declared.replaying.ReplayFault.TheVariants.{Memory as ReplayMemory, NoEntry as ReplayNoEntry, Differs as ReplayDiffers}
use Rattle.game_commands.specs.Script.{records}
use Rattle.whole_streams.specs.Streams.{StopsReading}
use Rattle.command_faults.specs.declared.fault.Fault.{Fault}
use Rattle.command_faults.specs.declared.fault.Fault.TheVariants.{Memory, NoEntry, Differs, ReadFault, InputTooLong, WriteFault}
use Rattle.whole_streams.specs.Lines.{BeginsWithLines}
use Rattle.command_faults.specs.Limits.{max_line}
use Rattle.game_commands.specs.Checks.{HasOpenLine}

abbrev pub is_over : {G S M : Type 0} → (G → Rules S M) → ManagerValue G M → DeskMatch M → Bool
is_over rules desk m = unwrap_or (option_map (λ x. is_last (status (rules x.game) x.value).phase) (game_match desk m)) true

abbrev pub open_matches : {G S M : Type 0} → (G → Rules S M) → ManagerValue G M → ℕ
open_matches rules desk = count_by (λ m. not (is_over rules desk m)) desk.matches

abbrev pub open_words : ℕ → List ℕ
open_words zero = []
open_words (suc zero) = codes ", match not ended"
open_words (suc (suc more)) = codes ", " ++ (decimal (suc (suc more)) ++ codes " matches not ended")

-- the line for these numbers: of calls, of matches that are not over, and of all matches; as JSON or in plain text
abbrev pub replayed_line : Bool → ℕ → ℕ → ℕ → List ℕ
replayed_line false calls count matches = codes "replayed " ++ (decimal calls ++ (codes " calls" ++ (open_words count ++ line_feed ∷ [])))
replayed_line true calls count matches =
    codes "{\"verdict\":\"replayed\",\"calls\":" ++ (decimal calls ++ (codes ",\"not_ended\":" ++ (decimal count ++ (codes ",\"records\":" ++ (decimal matches ++ codes "}\n")))))

-- the output for a call log of this many calls that leads to this desk: one line with the numbers, and then the records of the matches
abbrev pub replayed_text : {G S M : Type 0} → Bool → (G → Rules S M) → ManagerValue G M → ℕ → List ℕ
replayed_text is_json rules desk calls = replayed_line is_json calls (open_matches rules desk) (length desk.matches) ++ records rules desk desk.matches

-- ---- reading

abbrev pub max_account : ℕ
max_account = 268435456

-- the line begins with a brace, as records do
abbrev pub begins_as_record : List ℕ → Bool
begins_as_record [] = false
begins_as_record (byte ∷ line) = byte == 123

-- the text that is stored for a line; empty if the line begins as a record does
abbrev pub line_text : List ℕ → List ℕ
line_text line = if begins_as_record line then [] else line ++ 13 ∷ 10 ∷ []

-- adds the line at the front of the first group
abbrev pub into_first : List ℕ → List (List (List ℕ)) → List (List (List ℕ))
into_first line [] = (line ∷ []) ∷ []
into_first line (group ∷ more) = (line ∷ group) ∷ more

-- the groups of lines between the lines that begin as records do
abbrev pub groups : List (List ℕ) → List (List (List ℕ))
groups [] = [] ∷ []
groups (line ∷ more) = if begins_as_record line then [] ∷ groups more else into_first line (groups more)

abbrev pub is_none : {X : Type 0} → List X → Bool
is_none [] = true
is_none (x ∷ more) = false

abbrev pub with_lines : List (List (List ℕ)) → List (List (List ℕ))
with_lines all = filter (λ group. not (is_none group)) all

-- these call logs, or, if there are none, one call log without lines
abbrev pub at_least_one : List (List (List ℕ)) → List (List (List ℕ))
at_least_one [] = [] ∷ []
at_least_one (account ∷ more) = account ∷ more

-- the call logs of an input: the groups of its lines. An input without lines is one empty call log.
abbrev pub accounts : List ℕ → List (List (List ℕ))
accounts input = at_least_one (with_lines (groups (lines input)))

-- the lines are a call log that a desk with these games accepts, and this is the output for it
abbrev pub IsReplayed : {G S M : Type 0} → Bool → (G → Rules S M) → List G → List (List ℕ) → List ℕ → Type 0
IsReplayed {G} {S} {M} is_json rules games account output =
    (desk : ManagerValue G M) × (calls : ℕ) × IsAccount (reply rules) (after rules) (no_matches games) account desk calls × (output ≡ replayed_text is_json rules desk calls)

-- each of these is a call log that a new desk accepts, and this is the output for all of them
abbrev pub AreReplayed : {G S M : Type 0} → Bool → (G → Rules S M) → List G → List (List (List ℕ)) → List ℕ → Type 0
AreReplayed is_json rules games [] output = output ≡ []
AreReplayed is_json rules games (account ∷ more) output = (first rest : List ℕ) × (output ≡ first ++ rest) × IsReplayed is_json rules games account first × AreReplayed is_json rules games more rest

-- a group without lines is not a call log, unless it is the only group and the input ends there
abbrev pub is_skipped : List ℕ → Bool → ℕ → Bool
is_skipped text is_last before = length text == 0 && not (is_last && before == 0)

-- the output for the lines up to a record, or to the end of the input
abbrev pub IsEnded : {G S M : Type 0} → Bool → (G → Rules S M) → List G → Bool → List (List ℕ) → List ℕ → Type 0
IsEnded is_json rules games true account output = output ≡ []
IsEnded is_json rules games false account output = IsReplayed is_json rules games account output

-- ---- refusing

abbrev pub line_count : List (List (List ℕ)) → ℕ
line_count all = sum_by length all

-- the size of a call log, with two bytes for each line end
abbrev pub account_size : List (List ℕ) → ℕ
account_size account = sum_by (λ line. length line + 2) account

-- the program's error for a refused call log that follows this many lines of other call logs
abbrev pub replay_fault : ℕ → ReplayFault → Fault
replay_fault before ReplayMemory = Memory
replay_fault before (ReplayNoEntry place why) = NoEntry (before + place)
replay_fault before (ReplayDiffers place right) = Differs (before + place)

-- the line number of the error fits into 64 bits
abbrev pub IsNumbered : ℕ → ReplayFault → Type 0
IsNumbered before ReplayMemory = Unit {0}
IsNumbered before (ReplayNoEntry place why) = before + place ≤ last_count
IsNumbered before (ReplayDiffers place right) = before + place ≤ last_count

abbrev pub refused_line : List ℕ → ℕ → List ℕ
refused_line verdict line = codes "{\"verdict\":\"" ++ (verdict ++ (codes "\",\"line\":" ++ (decimal line ++ codes "}\n")))

-- The output for a refused call log that follows this many lines of other call logs. As JSON, it is the verdict. In plain text, it is the
-- correct line if the first wrong line contains a call, and otherwise nothing.
abbrev pub refused_output : Bool → ℕ → ReplayFault → List ℕ
refused_output is_json before ReplayMemory = []
refused_output true before (ReplayNoEntry place why) = refused_line (codes "no_entry") (before + place)
refused_output false before (ReplayNoEntry place why) = []
refused_output true before (ReplayDiffers place right) = refused_line (codes "differs") (before + place)
refused_output false before (ReplayDiffers place right) = right.items ++ line_feed ∷ []

-- unless memory runs out, the call log is refused at the first wrong line, and this is the output
abbrev pub IsRefusedAccount : {G S M : Type 0} → Bool → (G → Rules S M) → List G → ℕ → List (List ℕ) → Fault → List ℕ → Type 0
IsRefusedAccount is_json rules games before account fault output =
    (why : ReplayFault) × (fault ≡ replay_fault before why) × (output ≡ refused_output is_json before why) × (why ≢ ReplayMemory → IsFirstFault (reply rules) (after rules) (no_matches games) account why)

-- the output for these lines, whether they are accepted or refused
abbrev pub IsReplayOutput : {G S M : Type 0} → Bool → (G → Rules S M) → List G → ℕ → List (List ℕ) → List ℕ → Type 0
IsReplayOutput is_json rules games before account output = IsReplayed is_json rules games account output ⊎ ((fault : Fault) × IsRefusedAccount is_json rules games before account fault output)

-- Why replaying these lines fails: the lines are refused, and the output for the refusal was written; or a write failed, and a
-- prefix of the output was written.
abbrev pub AccountFails : {G S M W : Type 0} → (W → Option (List ℕ)) → Bool → (G → Rules S M) → List G → ℕ → List (List ℕ) → Counting W → Counting W → Fault → Type 0
AccountFails contents is_json rules games before account writer writer' fault =
    ((output : List ℕ) × IsRefusedAccount is_json rules games before account fault output × Appends (contents writer.stream) (contents writer'.stream) output × (writer'.faults ≡ writer.faults))
    ⊎ ((fault ≡ WriteFault) × (writer'.faults ≡ one_more writer.faults)
    × ((output : List ℕ) × (taken : ℕ) × IsReplayOutput is_json rules games before account output × (taken ≤ length output) × Appends (contents writer.stream) (contents writer'.stream) (take taken output)))

-- why a call log of this size is not stored: memory ran out, or the call log is too long
abbrev pub StopsLongAccount : Fault → ℕ → Type 0
StopsLongAccount fault size = (fault ≡ Memory) ⊎ ((fault ≡ InputTooLong) × (max_account < size))

-- Why reading the input stops, given the lines so far, the lines of the last call log, and the bytes that are left.
abbrev pub StopsInput : {R : Type 0} → Fault → List (List ℕ) → List (List ℕ) → List ℕ → Counting R → Counting R → Type 0
StopsInput ReadFault seen account left reader reader' = HasOpenLine left (λ count. (count ≤ max_line) × StopsReading count reader reader')
StopsInput InputTooLong seen account left reader reader' =
    (HasOpenLine left (λ count. max_line < count) ⊎ (max_account < account_size account) ⊎ (last_count ≤ length seen)) × (reader'.faults ≡ reader.faults)
StopsInput Memory seen account left reader reader' = reader'.faults ≡ reader.faults
StopsInput fault seen account left reader reader' = ⊥

-- these are lines of the text and these bytes are left, or these are all lines of the text
abbrev pub HasLines : List ℕ → List (List ℕ) → List ℕ → Type 0
HasLines text seen left = BeginsWithLines text seen left ⊎ ((lines text ≡ seen) × (left ≡ []))

-- Why not all call logs of an input were replayed, given the bytes that were read and the streams before and after. The output for the
-- earlier call logs was written. Then reading stopped, or the next call log failed.
abbrev pub ReplayFails : {G S M R W : Type 0} → (W → Option (List ℕ)) → Bool → (G → Rules S M) → List G → List ℕ → Fault → Counting R → Counting R → Counting W → Counting W → Type 0
ReplayFails {W = W} contents is_json rules games given fault reader reader' writer writer' =
    (seen : List (List ℕ)) × (left : List ℕ) × (done : List (List (List ℕ))) × (account : List (List ℕ)) × (rest : List (List (List ℕ))) × (output : List ℕ) × (mid : Counting W)
    × HasLines given seen left
    × (groups seen ≡ done ++ account ∷ rest)
    × AreReplayed is_json rules games (with_lines done) output
    × Appends (contents writer.stream) (contents mid.stream) output
    × (mid.faults ≡ writer.faults)
    × ((StopsInput fault seen account left reader reader' × (writer' ≡ mid))
    ⊎ ((reader'.faults ≡ reader.faults) × AccountFails contents is_json rules games (line_count done) account mid writer' fault))
