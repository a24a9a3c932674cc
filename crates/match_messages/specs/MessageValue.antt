-- The content of a message as a plain value, and the message's expression.
use Rattle.std.specs.Prelude.{ℕ, List, Option, Some, None, option_map, codes}
use Rattle.std.specs.Fmt.{decimal}
use Rattle.game_core.specs.Expression.{Expression, atom, list, Expressions, none, more, folded, all_folded}
use Rattle.kif_text.specs.View.{view, views}
use Rattle.match_messages.specs.declared.messages.Message.{Message}
use Rattle.match_messages.specs.declared.messages.Message.TheVariants.{Info, Start, Play, Stop, Abort}

-- the parts of each message: for START the id, the role, the rules and both clocks
pub data MessageValue : Type 0 where
  info : MessageValue
  start : List ℕ → Expression → Expressions → ℕ → ℕ → MessageValue
  play : List ℕ → Option Expressions → MessageValue
  stop : List ℕ → Option Expressions → MessageValue
  abort : List ℕ → MessageValue

abbrev pub message_value : Message → MessageValue
message_value Info = info
message_value (Start id role rules s p) = start id (view role) (views rules.items) s p
message_value (Play id moves) = play id (option_map (λ v. views v.items) moves)
message_value (Stop id moves) = stop id (option_map (λ v. views v.items) moves)
message_value (Abort id) = abort id

-- the moves of the last turn, or `NIL` before the first turn
abbrev pub moves_form : Option Expressions → Expression
moves_form None = atom (codes "NIL")
moves_form (Some moves) = list moves

abbrev pub start_form : List ℕ → Expression → Expression → ℕ → ℕ → Expression
start_form id role rules s p = list (more (atom (codes "START")) (more (atom id) (more role (more rules (more (atom (decimal s)) (more (atom (decimal p)) none))))))

abbrev pub message_form : MessageValue → Expression
message_form info = list (more (atom (codes "INFO")) none)
message_form (start id role rules s p) = start_form id role (list rules) s p
message_form (play id moves) = list (more (atom (codes "PLAY")) (more (atom id) (more (moves_form moves) none)))
message_form (stop id moves) = list (more (atom (codes "STOP")) (more (atom id) (more (moves_form moves) none)))
message_form (abort id) = list (more (atom (codes "ABORT")) (more (atom id) none))

-- the message with its role, rules and moves in lower case
abbrev pub folded_message : MessageValue → MessageValue
folded_message info = info
folded_message (start id role rules s p) = start id (folded role) (all_folded rules) s p
folded_message (play id moves) = play id (option_map all_folded moves)
folded_message (stop id moves) = stop id (option_map all_folded moves)
folded_message (abort id) = abort id
