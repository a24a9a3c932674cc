-- The parts of a ground game: the sentences of its description, and its tables.
use Rattle.std.specs.Prelude.{ℕ, List, map}
use Rattle.game_core.specs.Expression.{Expression}
use Rattle.kif_text.specs.View.{view}
use Rattle.ground_rules.specs.declared.vocabulary.Vocabulary.{Vocabulary}
use Rattle.ground_rules.specs.declared.ground_game.GroundGame.{GroundGame}
use Rattle.numbered_rules.specs.Literals.{Rule}
use Rattle.numbered_rules.specs.Numbered.{rules_of}
use Rattle.ground_rules.specs.LoadedGame.{GameTables}

abbrev pub sentences_of : GroundGame → List Expression
sentences_of g = map view g.vocabulary.description.items

abbrev pub tables_with : Vocabulary → List (Rule ℕ ℕ) → List (Rule ℕ ℕ) → GameTables
tables_with v rest turn = record { roles = v.roles.items; states = v.states.items; moves = v.moves.items; rest = rest; turn = turn; atoms = v.atoms; init = v.init.items; next = v.next.items; terminal = v.terminal }

abbrev pub tables_of : GroundGame → GameTables
tables_of g = tables_with g.vocabulary (rules_of g.rules.rest.items) (rules_of g.rules.turn.items)
