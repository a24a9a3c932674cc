-- How a message is read.
use Rattle.std.specs.Prelude.{◌≡◌, ℕ, Bool, false, if◌then◌else◌, List, map, Option, Some, None, bytes_eq, codes, Result, Ok, Err}
use Rattle.std.specs.Option.{option_zip}
use Rattle.game_core.specs.Bytes.{lower}
use Rattle.game_core.specs.Expression.{Expression, atom, list, Expressions, none, more, folded, all_folded}
use Rattle.kif_text.specs.Reading.{reading}
use Rattle.desk_calls.specs.Names.{is_name}
use Rattle.match_messages.specs.Clock.{clock_in}
use Rattle.match_messages.specs.MessageValue.{MessageValue, info, start, play, stop, abort, message_value}
use Rattle.match_messages.specs.declared.messages.Message.{Message}
use Rattle.match_messages.specs.declared.messages.MessageFault.{MessageFault}
use Rattle.match_messages.specs.declared.messages.MessageFault.TheVariants.{Unreadable, BadMessage, BadClock, Memory}

-- a message, or the reason why a text is not a message
abbrev pub Read : Type 0
Read = Result MessageValue MessageFault

-- the expression is the word `small`, in upper or lower case; `small` is in lower case
abbrev pub is_word : List ℕ → Expression → Bool
is_word small (atom word) = bytes_eq (map lower word) small
is_word small (list xs) = false

-- the lawful id in an expression
abbrev pub id_in : Expression → Option (List ℕ)
id_in (atom word) = if is_name word then Some word else None
id_in (list xs) = None

abbrev pub members_in : Expression → Option Expressions
members_in (atom word) = None
members_in (list xs) = Some xs

-- the moves in an expression: None for `NIL` and for the empty list
abbrev pub moves_in : Expression → Option (Option Expressions)
moves_in (atom word) = if is_word (codes "nil") (atom word) then Some None else None
moves_in (list none) = Some None
moves_in (list (more x xs)) = Some (Some (all_folded (more x xs)))

-- `(INFO)`
abbrev pub info_in : Expressions → Read
info_in none = Ok info
info_in (more x xs) = Err BadMessage

-- START with an id, a role, rules and both clocks; the clocks are checked last
abbrev pub start_of : Option (List ℕ) → Expression → Option Expressions → Option ℕ → Option ℕ → Read
start_of (Some id) role (Some rules) (Some s) (Some p) = Ok (start id (folded role) (all_folded rules) s p)
start_of (Some id) role (Some rules) s p = Err BadClock
start_of id role rules s p = Err BadMessage

-- `(START id role (sentence ..) start play)`
abbrev pub start_in : Expressions → Read
start_in (more id (more role (more rules (more s (more p none))))) = start_of (id_in id) role (members_in rules) (clock_in s) (clock_in p)
start_in _ = Err BadMessage

abbrev pub id_and_moves : Expressions → Option (List ℕ × Option Expressions)
id_and_moves (more id (more moves none)) = option_zip (id_in id) (moves_in moves)
id_and_moves _ = None

-- the message that f makes from an id and moves
abbrev pub moves_of : (List ℕ → Option Expressions → MessageValue) → Option (List ℕ × Option Expressions) → Read
moves_of f (Some (id, moves)) = Ok (f id moves)
moves_of f None = Err BadMessage

-- `(ABORT id)`
abbrev pub abort_of : Option (List ℕ) → Read
abort_of (Some id) = Ok (abort id)
abort_of None = Err BadMessage

abbrev pub abort_in : Expressions → Read
abort_in (more id none) = abort_of (id_in id)
abort_in _ = Err BadMessage

-- the message with this keyword and these members after it
abbrev pub message_of : Expression → Expressions → Read
message_of keyword rest =
    if is_word (codes "info") keyword then info_in rest
    else (if is_word (codes "start") keyword then start_in rest
    else (if is_word (codes "play") keyword then moves_of play (id_and_moves rest)
    else (if is_word (codes "stop") keyword then moves_of stop (id_and_moves rest)
    else (if is_word (codes "abort") keyword then abort_in rest
    else Err BadMessage))))

-- the message in an expression; the atom `INFO` means the list `(INFO)`
abbrev pub message_in : Expression → Read
message_in (atom word) = if is_word (codes "info") (atom word) then Ok info else Err BadMessage
message_in (list none) = Err BadMessage
message_in (list (more keyword rest)) = message_of keyword rest

-- the message in an expression, or `Unreadable` if there is no expression
abbrev pub in_expression : Option Expression → Read
in_expression None = Err Unreadable
in_expression (Some x) = message_in x

abbrev pub message_reading : List ℕ → Read
message_reading text = in_expression (reading text)

-- unless memory ran out, the result is the message or the error that reading gives
abbrev pub Gives : Result Message MessageFault → Read → Type 0
Gives (Ok m) read = read ≡ Ok (message_value m)
Gives (Err Unreadable) read = read ≡ Err Unreadable
Gives (Err BadMessage) read = read ≡ Err BadMessage
Gives (Err BadClock) read = read ≡ Err BadClock
Gives (Err Memory) read = Unit {0}
