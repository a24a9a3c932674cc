-- A manager as a plain value.
use Rattle.std.specs.Prelude.{◌≡◌, ◌≢◌, ◌≤◌, ℕ, Bool, List, [], length, Option, Some, option_map, option_and_then, find, slice_get, bytes_eq, All, AllPairs}
use Rattle.game_core.specs.Play.{Rules}
use Rattle.match_book.specs.MatchValue.{MatchValue, GameMatch}
use Rattle.match_book.specs.Lawful.{IsLawfulMatch}
use Rattle.desk_calls.specs.Names.{IsLawfulSetup}

-- the largest number of matches of a desk
abbrev pub max_matches : ℕ
max_matches = 1024

-- a match, and the number of its game
pub record DeskMatch (M : Type 0) : Type 0 where
  pub game : ℕ
  pub value : MatchValue M

-- the games, and the matches in the order of opening
pub record ManagerValue (G M : Type 0) : Type 0 where
  pub games : List G
  pub matches : List (DeskMatch M)

-- the same games without matches
abbrev pub opening : {G M : Type 0} → ManagerValue G M → ManagerValue G M
opening d = record { games = d.games; matches = [] }

-- ids are compared byte for byte
abbrev pub has_id : {M : Type 0} → List ℕ → DeskMatch M → Bool
has_id id m = bytes_eq id m.value.setup.id

-- the match with this id
abbrev pub match_of : {G M : Type 0} → ManagerValue G M → List ℕ → Option (DeskMatch M)
match_of d id = find (has_id id) d.matches

abbrev pub game_of : {G M : Type 0} → ManagerValue G M → DeskMatch M → Option G
game_of d m = slice_get d.games m.game

abbrev pub game_match : {G M : Type 0} → ManagerValue G M → DeskMatch M → Option (GameMatch G M)
game_match d m = option_map (λ g. record { game = g; value = m.value }) (game_of d m)

abbrev pub match_with_id : {G M : Type 0} → ManagerValue G M → List ℕ → Option (GameMatch G M)
match_with_id d id = option_and_then (game_match d) (match_of d id)

-- the match belongs to one of these games, and is lawful by its rules
pub record IsMatchOf {G S M : Type 0} (rules : G → Rules S M) (games : List G) (m : DeskMatch M) : Type 0 where
  pub game : G
  pub is_game : slice_get games m.game ≡ Some game
  pub lawful : IsLawfulMatch (rules game) m.value
  pub setup : IsLawfulSetup m.value.setup

-- each match is lawful, with a setup that can be opened and a unique id
pub record IsLawfulManager {G S M : Type 0} (rules : G → Rules S M) (d : ManagerValue G M) : Type 0 where
  pub matches : All (IsMatchOf rules d.games) d.matches
  pub ids_differ : AllPairs (λ m n. m.value.setup.id ≢ n.value.setup.id) d.matches
  pub few : length d.matches ≤ max_matches
