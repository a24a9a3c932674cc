-- The only match of a manager.
use Rattle.std.specs.Prelude.{◌≡◌, [], ◌∷◌, Option, option_and_then, slice_get}
use Rattle.desk_calls.specs.declared.setup.Setup.{Setup}
use Rattle.match_book.specs.MatchValue.{MatchValue, GameMatch}
use Rattle.match_desk.specs.ManagerValue.{ManagerValue, game_match}

-- The manager has only this game and exactly one match, of this game and with this setup.
pub record HasOneMatch {G M : Type 0} (game : G) (setup : Setup) (d : ManagerValue G M) : Type 0 where
  pub held : MatchValue M
  pub is_all : d ≡ record { games = game ∷ []; matches = record { game = 0; value = held } ∷ [] }
  pub setup_is : held.setup ≡ setup

abbrev pub first_match : {G M : Type 0} → ManagerValue G M → Option (GameMatch G M)
first_match d = option_and_then (game_match d) (slice_get d.matches 0)
