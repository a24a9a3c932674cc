-- The answers to the rows that a client sends over a line of the desk.
use Rattle.std.specs.Prelude.{◌≡◌, ℕ, ◌≤◌, ◌+◌, List, [], ◌∷◌, ◌++◌, length, Bool, true, false, Option, MatchOption, codes}
use Rattle.game_core.specs.Bytes.{line_feed}
use Rattle.call_history.specs.Lines.{LockLineValue}
use Rattle.call_history.specs.declared.journal.CallFault.{CallFault}
use Rattle.call_history.specs.declared.journal.CallFault.TheVariants.{Full as HistoryFull, Memory as CallMemory}
use Rattle.call_history.specs.declared.journal.Entry.{Entry}
use Rattle.desk_calls.specs.declared.call.Call.{Call}
use Rattle.desk_calls.specs.declared.call.Reply.{Reply}
use Rattle.desk_text.specs.ScriptLines.{call_of, reply_text}
use Rattle.whole_streams.specs.Lines.{BeginsWithLines, HasNoLineFeed}
use Rattle.desk_service.specs.declared.ending.Ending.{Ending}
use Rattle.desk_service.specs.declared.ending.Ending.TheVariants.{Left, Broken, TooLong, Full, Memory}

-- the largest number of bytes of a row
abbrev pub max_row : ℕ
max_row = 1048576

-- the beginning of a row, before its line feed has arrived
abbrev pub IsPartialRow : List ℕ → Type 0
IsPartialRow row = (length row ≤ max_row) × HasNoLineFeed row

-- The answer to a row. If the row contains a call, the line makes this call, the answer is the reply, and the entry of the call is legal.
-- If the row contains no call, the answer is `badline`.
abbrev pub AnswersCall : (Entry Call Reply → Type 0) → LockLineValue → LockLineValue → Option Call → List ℕ → List ℕ → Type 0
AnswersCall legal line line' asked out out' = MatchOption asked
    ((line'.made ≡ line.made) × (out' ≡ out ++ (codes "badline" ++ line_feed ∷ [])))
    (λ call. (line'.made ≡ line.made + 1)
    × ((reply : Reply) × legal (record { line = line.number; call = call; reply = reply }) × (out' ≡ out ++ (reply_text reply ++ line_feed ∷ []))))

abbrev pub AnswersRow : (Entry Call Reply → Type 0) → LockLineValue → LockLineValue → List ℕ → List ℕ → List ℕ → Type 0
AnswersRow legal line line' row out out' = AnswersCall legal line line' (call_of row) out out'

-- The line answered these rows in order, each once, with this text.
pub data AnswersRows (legal : Entry Call Reply → Type 0) (line : LockLineValue) : List (List ℕ) → List ℕ → LockLineValue → Type 0 where
  answers_none : AnswersRows legal line [] [] line
  answers_more : (rows : List (List ℕ)) (row text text' : List ℕ) (mid line' : LockLineValue) → AnswersRows legal line rows text mid
      → line'.number ≡ mid.number → AnswersRow legal mid line' row text text' → AnswersRows legal line (rows ++ row ∷ []) text' line'

-- The bytes begin with some rows, each with its line feed. The line answered these rows in order, each once, with this text. `left` follows
-- the rows.
pub record Answered (legal : Entry Call Reply → Type 0) (line last : LockLineValue) (given text left : List ℕ) : Type 0 where
  pub rows : List (List ℕ)
  pub begins : BeginsWithLines given rows left
  pub answers : AnswersRows legal line rows text last

-- the largest number of calls that the line may have made without a reply in the text
abbrev pub unanswered : Ending → ℕ
unanswered Broken = 1
unanswered Memory = 1
unanswered ending = 0

-- the service ended the conversation
abbrev pub is_stopped : Ending → Bool
is_stopped Left = false
is_stopped Broken = false
is_stopped ending = true

abbrev pub IsStopped : Ending → Type 0
IsStopped ending = is_stopped ending ≡ true

-- the line after the conversation, given the line after its last answer
abbrev pub IsLeftAs : Ending → LockLineValue → LockLineValue → Type 0
IsLeftAs ending last line' = (line'.number ≡ last.number) × (last.made ≤ line'.made) × (line'.made ≤ last.made + unanswered ending)

-- the last row that the client gets if the service ends the conversation
abbrev pub last_row : Ending → List ℕ
last_row Left = []
last_row Broken = []
last_row TooLong = codes "toolong\n"
last_row Full = codes "full\n"
last_row Memory = codes "memory\n"

abbrev pub fault_ending : CallFault → Ending
fault_ending HistoryFull = Full
fault_ending CallMemory = Memory
