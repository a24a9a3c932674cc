-- The text of an owed message.
use Rattle.std.specs.Prelude.{ℕ, List, [], ◌∷◌, option_map, slice_index_or}
use Rattle.game_core.specs.Expression.{Expression, Expressions, atom, none, more}
use Rattle.game_core.specs.Canonical.{canonical}
use Rattle.desk_calls.specs.declared.due.Owed.{Owed}
use Rattle.desk_calls.specs.declared.due.Owed.TheVariants.{Start, Play, Stop, Abort}
use Rattle.match_messages.specs.BriefValue.{BriefValue}
use Rattle.match_messages.specs.MessageValue.{play, stop, abort, start_form, message_form}

abbrev pub as_printed : List (List ℕ) → Expressions
as_printed [] = none
as_printed (t ∷ ts) = more (atom t) (as_printed ts)

-- The expression of an owed message for the role. The role's name, the rules and the moves are inserted as texts.
abbrev pub owed_form : BriefValue → ℕ → Owed → Expression
owed_form b role Start = start_form b.id (atom (slice_index_or b.roles role [])) (atom b.rules) b.start b.play
owed_form b role (Play moves) = message_form (play b.id (option_map as_printed moves))
owed_form b role (Stop moves) = message_form (stop b.id (option_map as_printed moves))
owed_form b role Abort = message_form (abort b.id)

-- the text of the message that the match owes to the role
abbrev pub message_text : BriefValue → ℕ → Owed → List ℕ
message_text b role owed = canonical (owed_form b role owed)
