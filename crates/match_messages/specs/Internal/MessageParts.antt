-- The parts of a message, as its reader returns them. Each result may be an out-of-memory error instead.
use Rattle.std.specs.Prelude.{◌≡◌, List, ℕ, Option, Some, None, option_map, Result, Ok, Err, Vec}
use Rattle.std.specs.Global.{Global}
use Rattle.game_core.specs.Expression.{Expressions}
use Rattle.kif_text.specs.View.{views}
use Rattle.kif_text.specs.declared.expr.Expr.{Expr}
use Rattle.match_messages.specs.declared.messages.MessageFault.{MessageFault}
use Rattle.match_messages.specs.declared.messages.MessageFault.TheVariants.{Unreadable, BadMessage, BadClock, Memory}

-- `found` is f of the part, or None if the message is bad
abbrev pub GivesPart : {A B : Type 0} → (A → B) → Result A MessageFault → Option B → Type 0
GivesPart f (Ok part) found = found ≡ Some (f part)
GivesPart f (Err Unreadable) found = ⊥
GivesPart f (Err BadMessage) found = found ≡ None
GivesPart f (Err BadClock) found = ⊥
GivesPart f (Err Memory) found = Unit {0}

abbrev pub moves_value : Option (Vec Expr Global) → Option Expressions
moves_value moves = option_map (λ v. views v.items) moves

abbrev pub GivesMoves : Result (Option (Vec Expr Global)) MessageFault → Option (Option Expressions) → Type 0
GivesMoves = GivesPart moves_value

-- the result is an id and moves, or an error because one of them is missing
abbrev pub GivesIdAndMoves : Result (List ℕ × Option (Vec Expr Global)) MessageFault → Option (List ℕ × Option Expressions) → Type 0
GivesIdAndMoves = GivesPart (λ p. (p.0, moves_value p.1))
