-- How a manager stores its matches.
use Rattle.std.specs.Prelude.{◌≡◌, ℕ, List, map, Vec, All, Some, slice_get}
use Rattle.std.specs.Global.{Global}
use Rattle.game_core.specs.Play.{Rules}
use Rattle.match_desk.specs.ManagerValue.{DeskMatch, IsLawfulManager}
use Rattle.match_desk.specs.declared.slot.Slot.{Slot}

-- the match in the manager's value
abbrev pub desk_match : {G S M : Type 0} → Slot G S M → DeskMatch M
desk_match s = record { game = s.game; value = s.held.value }

abbrev pub desk_matches : {G S M : Type 0} → List (Vec ℕ Global × Slot G S M) → List (DeskMatch M)
desk_matches entries = map (λ e. desk_match e.1) entries

-- the match is stored under its id, and belongs to the game with its number
pub record IsSlotOf {G S M : Type 0} (games : List G) (entry : Vec ℕ Global × Slot G S M) : Type 0 where
  pub id_is : entry.0.items ≡ entry.1.held.value.setup.id
  pub game_is : slice_get games entry.1.game ≡ Some entry.1.held.game

-- each match is stored at its index, and the manager is lawful
pub record AreKept {G S M : Type 0} (rules : G → Rules S M) (games : List G) (entries : List (Vec ℕ Global × Slot G S M)) : Type 0 where
  pub slots : All (IsSlotOf games) entries
  pub lawful : IsLawfulManager rules (record { games = games; matches = desk_matches entries })
