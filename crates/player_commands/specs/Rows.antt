-- The verdicts in the rows of a table.
use Rattle.std.specs.Prelude.{ℕ, Bool, true, not, List, [], ◌∷◌, Option, Some, None, option_map, count_by}
use Rattle.player_commands.specs.declared.role_turns.RoleTurn.{RoleTurn}
use Rattle.player_commands.specs.Verdicts.{verdict_of, is_good}
use Rattle.player_commands.specs.declared.table.Verdict.{Verdict}
use Rattle.player_commands.specs.declared.watched.Exchange.{Exchange}

-- the turn of the next exchange, if the exchange asks for a move
abbrev pub next_turn : Bool → List RoleTurn → Option RoleTurn
next_turn true (turn ∷ turns) = Some turn
next_turn is_play turns = None

abbrev pub later_turns : Bool → List RoleTurn → List RoleTurn
later_turns true (turn ∷ turns) = turns
later_turns is_play turns = turns

abbrev pub row_verdict : Exchange → Option RoleTurn → Verdict
row_verdict exchange turn = verdict_of exchange.is_play exchange.brought (option_map (λ (t : RoleTurn). t.error) turn)

-- the verdicts on the exchanges; the exchanges that ask for a move have these turns, in order
abbrev pub verdicts : List Exchange → List RoleTurn → List Verdict
verdicts [] turns = []
verdicts (exchange ∷ exchanges) turns =
    row_verdict exchange (next_turn exchange.is_play turns) ∷ verdicts exchanges (later_turns exchange.is_play turns)

abbrev pub bad_answers : List Exchange → List RoleTurn → ℕ
bad_answers exchanges turns = count_by (λ verdict. not (is_good verdict)) (verdicts exchanges turns)
