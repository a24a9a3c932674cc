-- Games described by text.
use Rattle.std.specs.Prelude.{◌≢◌, ℕ, List, map}
use Rattle.game_core.specs.Expression.{Expression, Expressions, folded}
use Rattle.game_core.specs.Limits.{max_bytes}
use Rattle.game_core.specs.declared.limits.Limits.{Limits}
use Rattle.kif_text.specs.Faults.{IsFaultUpTo, any_number}
use Rattle.kif_text.specs.Spelling.{SpellsUpTo}
use Rattle.kif_text.specs.View.{expressions}
use Rattle.rule_sentences.specs.declared.fault.LoadFault.{LoadFault}
use Rattle.rule_sentences.specs.declared.fault.LoadFault.TheVariants.{Memory as LoadMemory}
use Rattle.ground_rules.specs.declared.ground_game.GroundGame.{GroundGame}
use Rattle.ground_rules.specs.Loading.{IsLoadFault}
use Rattle.ground_rules.specs.Loaded.{IsLoaded}
use Rattle.kif_text.specs.declared.fault.KifFault.{KifFault}
use Rattle.kif_text.specs.declared.fault.KifFault.TheVariants.{Memory as KifMemory}
use Rattle.packed_rules.specs.PackedGames.{IsPackedFormOf}
use Rattle.packed_rules.specs.declared.packed_game.PackedGame.{PackedGame}
use Rattle.described_games.specs.declared.games.DescriptionFault.{DescriptionFault}
use Rattle.described_games.specs.declared.games.DescriptionFault.TheVariants.{Memory, Unread, Unfit}

-- the text spells sentences, and the game is the one that they describe in lower case, within these limits
pub record IsLoadedFrom (limits : Limits) (text : List ℕ) (game : GroundGame) : Type 0 where
  pub sentences : List Expression
  pub spelled : SpellsUpTo (max_bytes limits) text (expressions sentences)
  pub loaded : IsLoaded limits (map folded sentences) game

-- the game is the packed form of the game that the text describes
pub record IsDescribed (limits : Limits) (text : List ℕ) (game : PackedGame) : Type 0 where
  pub plain : GroundGame
  pub loaded : IsLoadedFrom limits text plain
  pub packed : IsPackedFormOf plain game

-- within these limits, the text spells no sentences, or sentences with an error
pub data DescribesNone (limits : Limits) (text : List ℕ) : Type 0 where
  unread : ((xs : Expressions) → ¬ SpellsUpTo (max_bytes limits) text xs) → DescribesNone limits text
  faulty : (sentences : List Expression) (fault : LoadFault) → SpellsUpTo (max_bytes limits) text (expressions sentences) → fault ≢ LoadMemory → IsLoadFault limits (map folded sentences) fault → DescribesNone limits text

-- Within these limits, the first error is this spelling error of the text, or this loading error of its sentences in lower case.
abbrev pub IsRefusedAs : Limits → List ℕ → DescriptionFault → Type 0
IsRefusedAs limits text (Unread fault) = (fault ≢ KifMemory) × IsFaultUpTo (max_bytes limits) any_number text fault
IsRefusedAs limits text (Unfit fault) = (fault ≢ LoadMemory) × (sentences : List Expression) × SpellsUpTo (max_bytes limits) text (expressions sentences) × IsLoadFault limits (map folded sentences) fault
IsRefusedAs limits text Memory = Unit {0}

-- the error of a text that cannot be read, or of sentences that cannot be loaded
abbrev pub reading_fault : KifFault → DescriptionFault
reading_fault KifMemory = Memory
reading_fault fault = Unread fault

abbrev pub loading_fault : LoadFault → DescriptionFault
loading_fault LoadMemory = Memory
loading_fault fault = Unfit fault
