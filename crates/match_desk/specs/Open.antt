-- The conditions for opening a match.
use Rattle.std.specs.Prelude.{ℕ, Bool, false, ◌==◌, nat_lt, ◌&&◌, List, [], ◌∷◌, ◌++◌, length, if◌then◌else◌, Option, Some, None, is_none, is_some, option_map, unwrap_or, slice_get}
use Rattle.std.specs.List.{list_all}
use Rattle.game_core.specs.Play.{Rules}
use Rattle.match_book.specs.Steps.{new_match}
use Rattle.desk_calls.specs.declared.setup.Setup.{Setup}
use Rattle.desk_calls.specs.Names.{is_name, is_clock, is_strikes}
use Rattle.match_desk.specs.ManagerValue.{ManagerValue, match_of, max_matches}
use Rattle.desk_calls.specs.declared.call.Refusal.{Refusal}
use Rattle.desk_calls.specs.declared.call.Refusal.TheVariants.{BadId, IdUsed, NoGame, WrongPlayers, BadName, BadClock, BadStrikes, DeskFull}

-- the refusal of the first test that fails
abbrev pub first_refusal : List (Bool × Refusal) → Option Refusal
first_refusal [] = None
first_refusal (test ∷ tests) = if test.0 then first_refusal tests else Some test.1

-- the game with this number has this many roles
abbrev pub has_roles : {G S M : Type 0} → (G → Rules S M) → Option G → ℕ → Bool
has_roles rules o n = unwrap_or (option_map (λ g. n == (rules g).roles) o) false

abbrev pub open_tests : {G S M : Type 0} → (G → Rules S M) → ManagerValue G M → ℕ → Setup → List (Bool × Refusal)
open_tests rules d game setup =
    (is_name setup.id, BadId)
    ∷ ((is_none (match_of d setup.id), IdUsed)
    ∷ ((is_some (slice_get d.games game), NoGame)
    ∷ ((has_roles rules (slice_get d.games game) (length setup.players), WrongPlayers)
    ∷ ((list_all is_name setup.players, BadName)
    ∷ ((is_clock setup.start && is_clock setup.play, BadClock)
    ∷ ((is_strikes setup.strikes, BadStrikes)
    ∷ ((nat_lt (length d.matches) max_matches, DeskFull)
    ∷ [])))))))

-- the first reason why the manager cannot open a match, or None if it can
abbrev pub open_refusal : {G S M : Type 0} → (G → Rules S M) → ManagerValue G M → ℕ → Setup → Option Refusal
open_refusal rules d game setup = first_refusal (open_tests rules d game setup)

-- the matches and a new one, which has no answers
abbrev pub with_new_match : {G S M : Type 0} → (G → Rules S M) → ManagerValue G M → ℕ → Setup → Option G → ManagerValue G M
with_new_match rules d game setup None = d
with_new_match rules d game setup (Some g) = record d { matches = d.matches ++ (record { game = game; value = new_match (rules g) setup }) ∷ [] }

-- the manager after `Open`; unchanged if the match cannot be opened
abbrev pub after_open : {G S M : Type 0} → (G → Rules S M) → ManagerValue G M → ℕ → Setup → ManagerValue G M
after_open rules d game setup = if is_none (open_refusal rules d game setup) then with_new_match rules d game setup (slice_get d.games game) else d
