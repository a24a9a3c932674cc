-- The game that `load` makes from expressions.
use Rattle.std.specs.Prelude.{◌≡◌, List, length, Result, Ok, Err}
use Rattle.game_core.specs.Expression.{Expression}
use Rattle.game_core.specs.declared.limits.Limits.{Limits}
use Rattle.game_core.specs.declared.limits.Limits.TheVariants.{Usual}
use Rattle.rule_sentences.specs.declared.fault.LoadFault.{LoadFault}
use Rattle.ground_rules.specs.declared.ground_game.GroundGame.{GroundGame}
use Rattle.ground_rules.specs.Described.{IsGameOf}
use Rattle.ground_rules.specs.LoadedGame.{loaded_game}
use Rattle.ground_rules.specs.GroundGames.{sentences_of, tables_of}
use Rattle.rule_sentences.specs.SentenceFaults.{AreSentences, description_of}
use Rattle.ground_rules.specs.Loading.{IsSound, IsLoadFault}

-- the expressions are in lower case and have no error within these limits, and this is their game
pub record IsLoaded (limits : Limits) (xs : List Expression) (g : GroundGame) : Type 0 where
  pub sentences : AreSentences xs
  pub sound : IsSound limits (length xs) (description_of xs)
  pub game : IsGameOf (description_of xs) (loaded_game (tables_of g))
  pub description : sentences_of g ≡ xs

abbrev pub IsLoadAnswerWithin : Limits → List Expression → Result GroundGame LoadFault → Type 0
IsLoadAnswerWithin limits xs (Ok g) = IsLoaded limits xs g
IsLoadAnswerWithin limits xs (Err e) = IsLoadFault limits xs e

-- the result within the usual limits
abbrev pub IsLoadAnswer : List Expression → Result GroundGame LoadFault → Type 0
IsLoadAnswer xs answer = IsLoadAnswerWithin Usual xs answer
