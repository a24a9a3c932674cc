-- Calls as lines of scripts and call logs, and replies as lines.
use Rattle.std.specs.Prelude.{ℕ, ◌&&◌, ◌||◌, nat_le, nat_lt, Bool, true, false, List, [], ◌∷◌, ◌++◌, length, Option, Some, None, option_and_then, option_map, if◌then◌else◌, bytes_eq, codes}
use Rattle.std.specs.List.{list_all}
use Rattle.std.specs.Fmt.{decimal}
use Rattle.game_core.specs.Bytes.{left_parenthesis, right_parenthesis}
use Rattle.desk_calls.specs.Phases.{phase_text}
use Rattle.desk_calls.specs.declared.due.Due.{Due}
use Rattle.desk_calls.specs.declared.due.Due.TheVariants.{Owe, Hold, Over}
use Rattle.desk_calls.specs.declared.due.Owed.{Owed}
use Rattle.desk_calls.specs.declared.due.Owed.TheVariants.{Start, Play, Stop, Abort as OweAbort}
use Rattle.desk_calls.specs.declared.phase.Status.{Status as MatchStatus}
use Rattle.desk_calls.specs.declared.call.Call.{Call}
use Rattle.desk_calls.specs.declared.call.Call.TheVariants.{Open, Next, Submit, Miss, Query, Abort}
use Rattle.desk_calls.specs.declared.call.Reply.{Reply}
use Rattle.desk_calls.specs.declared.call.Reply.TheVariants.{Opened, Due as IsDue, Taken, Status, Aborting, Refused}
use Rattle.desk_calls.specs.declared.call.Refusal.{Refusal}
use Rattle.desk_calls.specs.declared.call.Refusal.TheVariants.{BadId, IdUsed, NoGame, WrongPlayers, BadName, BadClock, BadStrikes, DeskFull, NoMatch, NoRole, Over as IsOver, Stale, Twice, Ended}
use Rattle.game_core.specs.Numerals.{plain_number}
use Rattle.desk_text.specs.declared.script_lines.Grammar.{Grammar}
use Rattle.desk_text.specs.Words.{words, spaced, max_number, max_in_32_bits, max_in_64_bits}

-- in a script, names are not empty, and numbers have a limit
abbrev pub script : Grammar
script = record { has_empty_names = false; largest = max_number }

-- in a call log, names may be empty, and numbers are limited only by their types
abbrev pub account : Grammar
account = record { has_empty_names = true; largest = max_in_64_bits }

abbrev pub is_name : Grammar → List ℕ → Bool
is_name grammar word = grammar.has_empty_names || nat_lt 0 (length word)

-- ---- the first word, and the words after it

infixl 10 ◌>>=◌
abbrev pub ◌>>=◌ : {A B : Type 0} → Option A → (A → Option B) → Option B
o >>= f = option_and_then f o

abbrev pub first_name : Grammar → List (List ℕ) → Option (List ℕ × List (List ℕ))
first_name grammar [] = None
first_name grammar (word ∷ more) = if is_name grammar word then Some (word, more) else None

-- a number in decimal digits, without leading zeros
abbrev pub first_number : Grammar → List (List ℕ) → Option (ℕ × List (List ℕ))
first_number grammar [] = None
first_number grammar (word ∷ more) = option_map (λ number. (number, more)) (plain_number word grammar.largest)

-- whether the word is `broken` rather than `silent`
abbrev pub first_reason : List (List ℕ) → Option (Bool × List (List ℕ))
first_reason [] = None
first_reason (word ∷ more) = if bytes_eq word (codes "silent") then Some (false, more) else (if bytes_eq word (codes "broken") then Some (true, more) else None)

-- the number of strikes, or 0 if the call has no word for it
abbrev pub first_strikes : Grammar → Bool → List (List ℕ) → Option (ℕ × List (List ℕ))
first_strikes grammar is_strict words = if is_strict then first_number grammar words else Some (0, words)

abbrev pub is_end : List (List ℕ) → Bool
is_end [] = true
is_end (word ∷ more) = false

abbrev pub names_of : Grammar → List (List ℕ) → Option (List (List ℕ))
names_of grammar words = if list_all (is_name grammar) words then Some words else None

-- ---- the words of each call after the keyword

-- ID GAME START PLAY PLAYER .., and for `strict` STRIKES before the players
abbrev pub opening_words : Grammar → Bool → List (List ℕ) → Option (List ℕ × ℕ × ℕ × ℕ × ℕ × List (List ℕ))
opening_words grammar is_strict words = do
  id ← first_name grammar words
  game ← first_number grammar id.1
  start ← first_number grammar game.1
  play ← first_number grammar start.1
  strikes ← first_strikes grammar is_strict play.1
  Some (id.0, game.0, start.0, play.0, strikes.0, strikes.1)

-- clocks and strikes must fit into 32 bits
abbrev pub opening_call : Grammar → Bool → List (List ℕ) → Option Call
opening_call grammar is_strict words = do
  opening ← opening_words grammar is_strict words
  players ← if nat_le opening.2 max_in_32_bits && nat_le opening.3 max_in_32_bits && nat_le opening.4 max_in_32_bits then names_of grammar opening.5 else None
  Some (Open opening.0 opening.1 opening.2 opening.3 opening.4 players)

-- ID ROLE
abbrev pub next_words : Grammar → List (List ℕ) → Option (List ℕ × ℕ)
next_words grammar words = do
  id ← first_name grammar words
  role ← first_number grammar id.1
  if is_end role.1 then Some (id.0, role.0) else None

abbrev pub next_call : Grammar → List (List ℕ) → Option Call
next_call grammar words = option_map (λ w. Next w.0 w.1) (next_words grammar words)

-- ID ROLE ROUND, and the words after them
abbrev pub round_words : Grammar → List (List ℕ) → Option (List ℕ × ℕ × ℕ × List (List ℕ))
round_words grammar words = do
  id ← first_name grammar words
  role ← first_number grammar id.1
  round ← first_number grammar role.1
  Some (id.0, role.0, round.0, round.1)

-- ID ROLE ROUND TEXT. The text is the rest of the line.
abbrev pub submit_call : Grammar → List (List ℕ) → Option Call
submit_call grammar words = option_map (λ w. Submit w.0 w.1 w.2 (spaced w.3)) (round_words grammar words)

-- ID ROLE ROUND, and `silent` or `broken`
abbrev pub miss_words : Grammar → List (List ℕ) → Option (List ℕ × ℕ × ℕ × Bool)
miss_words grammar words = do
  w ← round_words grammar words
  reason ← first_reason w.3
  if is_end reason.1 then Some (w.0, w.1, w.2, reason.0) else None

abbrev pub miss_call : Grammar → List (List ℕ) → Option Call
miss_call grammar words = option_map (λ w. Miss w.0 w.1 w.2 w.3) (miss_words grammar words)

abbrev pub only_id : Grammar → List (List ℕ) → Option (List ℕ)
only_id grammar words = do
  id ← first_name grammar words
  if is_end id.1 then Some id.0 else None

abbrev pub id_call : Grammar → Bool → List (List ℕ) → Option Call
id_call grammar is_abort words = option_map (λ id. if is_abort then Abort id else Query id) (only_id grammar words)

abbrev pub call_of_words : Grammar → List (List ℕ) → Option Call
call_of_words grammar [] = None
call_of_words grammar (keyword ∷ rest) =
    if bytes_eq keyword (codes "open") then opening_call grammar false rest
    else (if bytes_eq keyword (codes "strict") then opening_call grammar true rest
    else (if bytes_eq keyword (codes "next") then next_call grammar rest
    else (if bytes_eq keyword (codes "submit") then submit_call grammar rest
    else (if bytes_eq keyword (codes "miss") then miss_call grammar rest
    else (if bytes_eq keyword (codes "query") then id_call grammar false rest
    else (if bytes_eq keyword (codes "abort") then id_call grammar true rest
    else None))))))

-- the call in a line of a script, or None if the line is invalid
abbrev pub call_of : List ℕ → Option Call
call_of line = call_of_words script (words line)

-- the last joint move, or NIL before the first turn
abbrev pub joint_text : Option (List (List ℕ)) → List ℕ
joint_text None = codes "NIL"
joint_text (Some moves) = left_parenthesis ∷ (spaced moves ++ right_parenthesis ∷ [])

abbrev pub owed_text : Owed → List ℕ
owed_text Start = codes "start"
owed_text (Play moves) = codes "play " ++ joint_text moves
owed_text (Stop moves) = codes "stop " ++ joint_text moves
owed_text OweAbort = codes "abort"

abbrev pub due_text : Due → List ℕ
due_text (Owe round owed) = codes "owe " ++ decimal round ++ codes " " ++ owed_text owed
due_text (Hold round) = codes "hold " ++ decimal round
due_text Over = codes "over"

abbrev pub status_text : MatchStatus → List ℕ
status_text s = codes "status " ++ phase_text s.phase ++ codes " round " ++ decimal s.round ++ codes " turns " ++ decimal s.turns ++ codes " substitutions " ++ decimal s.substitutions

abbrev pub refusal_word : Refusal → List ℕ
refusal_word BadId = codes "badid"
refusal_word IdUsed = codes "idused"
refusal_word NoGame = codes "nogame"
refusal_word WrongPlayers = codes "wrongplayers"
refusal_word BadName = codes "badname"
refusal_word BadClock = codes "badclock"
refusal_word BadStrikes = codes "badstrikes"
refusal_word DeskFull = codes "deskfull"
refusal_word NoMatch = codes "nomatch"
refusal_word NoRole = codes "norole"
refusal_word IsOver = codes "over"
refusal_word (Stale round) = codes "stale"
refusal_word Twice = codes "twice"
refusal_word Ended = codes "ended"

-- the word of a refusal; `stale` is followed by the present round
abbrev pub refusal_text : Refusal → List ℕ
refusal_text (Stale round) = codes "stale " ++ decimal round
refusal_text reason = refusal_word reason

-- the line of a reply, without a line feed
abbrev pub reply_text : Reply → List ℕ
reply_text Opened = codes "opened"
reply_text (IsDue due) = due_text due
reply_text Taken = codes "taken"
reply_text (Status status) = status_text status
reply_text Aborting = codes "aborting"
reply_text (Refused reason) = codes "refused " ++ refusal_text reason
