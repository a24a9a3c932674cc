-- The turns of one role in a match.
use Rattle.std.specs.Prelude.{◌≡◌, ℕ, List, Option, Some, length, slice_get, option_map}
use Rattle.game_core.specs.Play.{Rules}
use Rattle.ground_rules.specs.LoadedGame.{loaded_game}
use Rattle.packed_rules.specs.PackedGames.{tables_of}
use Rattle.packed_rules.specs.declared.packed_game.PackedGame.{PackedGame}
use Rattle.desk_calls.specs.declared.setup.Setup.{Setup}
use Rattle.match_book.specs.MatchValue.{move_at, error_at}
use Rattle.match_book.specs.declared.turn.Turn.{Turn}
use Rattle.match_messages.specs.Handing.{Handed}
use Rattle.match_play.specs.PlayedMatches.{IsEndedWith}
use Rattle.player_commands.specs.declared.role_turns.RoleTurn.{RoleTurn}

-- `told` gives the text and the error of the role's move in this turn
pub record IsTurnOf {S M : Type 0} (g : Rules S M) (turns : List (Turn M)) (role : ℕ) (turn : ℕ) (told : RoleTurn) : Type 0 where
  pub played : option_map g.move_text (move_at turns turn role) ≡ Some told.played
  pub error : error_at turns turn role ≡ Some told.error

pub record AreTurnsOf {S M : Type 0} (g : Rules S M) (turns : List (Turn M)) (role : ℕ) (told : List RoleTurn) : Type 0 where
  pub count : length told ≡ length turns
  pub each : (turn : ℕ) (t : RoleTurn) → slice_get told turn ≡ Some t → IsTurnOf g turns role turn t

-- These players got these printed rules and played a match of this game with this setup. These are the role's turns.
abbrev pub ArePlayedTurns : {P : Type 0} → (P → Option (List Handed)) → PackedGame → List ℕ → ℕ → Setup → List P → ℕ → List RoleTurn → Type 0
ArePlayedTurns handed game rules tries setup players role told = IsEndedWith handed game rules tries setup players (λ held. AreTurnsOf (loaded_game (tables_of held.game)) held.value.turns role told)
