-- The game of a task, and the rules that players get.
use Rattle.std.specs.Prelude.{◌≡◌, ◌⊎◌, ℕ, List, [], ◌∷◌, MatchOption, Option}
use Rattle.game_core.specs.Expression.{Expressions, all_folded}
use Rattle.kif_text.specs.Spelling.{SpellsAll}
use Rattle.kif_text.specs.View.{expressions}
use Rattle.match_messages.specs.RulesText.{rules_text}
use Rattle.described_games.specs.Games.{IsDescribed}
use Rattle.packed_rules.specs.PackedGames.{sentences_of}
use Rattle.packed_rules.specs.declared.packed_game.PackedGame.{PackedGame}
use Rattle.command_line.specs.declared.tasks.GameOptions.{GameOptions}
use Rattle.match_plans.specs.declared.game_source.GameSource.{GameSource}
use Rattle.game_commands.specs.Commands.{HasNoSourceText, IsRefused, IsSourceText, limits_of}
use Rattle.command_faults.specs.declared.fault.Fault.{Fault}
use Rattle.command_faults.specs.declared.fault.Fault.TheVariants.{BadPlayerRules, Memory}
use Rattle.command_faults.specs.declared.files.NamedFile.TheVariants.{PlayerRules}
use Rattle.command_faults.specs.Faults.{IsFileFault}

-- the rules are the sentences that this text spells, printed in lower case
abbrev pub AreSpelled : List ℕ → List ℕ → Type 0
AreSpelled text rules = (sentences : Expressions) × SpellsAll text sentences × (rules ≡ rules_text (all_folded sentences))

-- the rules for players: the sentences of the game or, if a file of other rules is named, the sentences of some text
abbrev pub AreRulesFor : {F : Type 0} → Option F → PackedGame → List ℕ → Type 0
AreRulesFor player_rules game rules = MatchOption player_rules (rules ≡ rules_text (expressions (sentences_of game))) (λ file. (text : List ℕ) × AreSpelled text rules)

-- the game is a game of this source; a file may contain any text
abbrev pub IsGameOf : GameSource → PackedGame → Type 0
IsGameOf source game = (text : List ℕ) × IsSourceText source text × IsDescribed (limits_of source) text game

-- each game is a game of the source with the same index
abbrev pub AreGamesOf : List GameSource → List PackedGame → Type 0
AreGamesOf [] [] = Unit {0}
AreGamesOf [] (game ∷ games) = ⊥
AreGamesOf (source ∷ sources) [] = ⊥
AreGamesOf (source ∷ sources) (game ∷ games) = IsGameOf source game × AreGamesOf sources games

-- The options describe this game, and these are the rules for its players. A file may contain any text.
abbrev pub IsLoadedGame : GameOptions → PackedGame → List ℕ → Type 0
IsLoadedGame plan game rules = IsGameOf plan.game game × AreRulesFor plan.player_rules game rules

-- the error for a file of players' rules: the file cannot be read, or is not KIF
abbrev pub IsPlayerRulesFault : Fault → Type 0
IsPlayerRulesFault fault = IsFileFault PlayerRules fault ⊎ (fault ≡ BadPlayerRules)

-- the error for the players' rules; if no file is named, it can only be out of memory
abbrev pub HasNoRules : {F : Type 0} → Option F → Fault → Type 0
HasNoRules player_rules fault = MatchOption player_rules (fault ≡ Memory) (λ file. IsPlayerRulesFault fault)

-- Why there is nothing to play: there is no text of the game, the text does not describe a game, or there are no rules for the players.
abbrev pub IsNotLoadedGame : GameOptions → Fault → Type 0
IsNotLoadedGame plan fault = HasNoSourceText plan.game fault ⊎ (((text : List ℕ) × IsSourceText plan.game text × IsRefused (limits_of plan.game) text fault) ⊎ HasNoRules plan.player_rules fault)
