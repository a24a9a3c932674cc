-- The parts of a packed game, and the result of packing.
use Rattle.std.specs.Prelude.{◌≡◌, List, map}
use Rattle.game_core.specs.Expression.{Expression}
use Rattle.kif_text.specs.View.{view}
use Rattle.ground_rules.specs.declared.ground_game.GroundGame.{GroundGame}
use Rattle.ground_rules.specs.Descriptions.{Description}
use Rattle.ground_rules.specs.Described.{IsGameOf}
use Rattle.packed_rules.specs.PackedTables.{rest_of, turn_of}
use Rattle.ground_rules.specs.LoadedGame.{GameTables, loaded_game}
use Rattle.ground_rules.specs.GroundGames.{tables_with, tables_of as ground_tables_of, sentences_of as ground_sentences_of}
use Rattle.packed_rules.specs.declared.packed_game.PackedGame.{PackedGame}

abbrev pub sentences_of : PackedGame → List Expression
sentences_of g = map view g.vocabulary.description.items

abbrev pub tables_of : PackedGame → GameTables
tables_of g = tables_with g.vocabulary (rest_of g.rules) (turn_of g.rules)

-- the packed form has the game's tables, so it is the game of the same descriptions; it also has the same sentences
pub record IsPackedFormOf (g : GroundGame) (p : PackedGame) : Type 0 where
  pub tables : tables_of p ≡ ground_tables_of g
  pub game : (d : Description) → IsGameOf d (loaded_game (ground_tables_of g)) → IsGameOf d (loaded_game (tables_of p))
  pub description : sentences_of p ≡ ground_sentences_of g
