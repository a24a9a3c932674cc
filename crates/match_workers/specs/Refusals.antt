-- When the desk refuses to open a match.
use Rattle.std.specs.Prelude.{[], ◌∷◌, Option}
use Rattle.game_core.specs.Play.{Rules}
use Rattle.desk_calls.specs.declared.call.Refusal.{Refusal}
use Rattle.desk_calls.specs.declared.setup.Setup.{Setup}
use Rattle.match_desk.specs.ManagerValue.{ManagerValue}
use Rattle.match_desk.specs.Open.{open_refusal}

-- the manager with only this game and no match
abbrev pub manager_of : {G M : Type 0} → G → ManagerValue G M
manager_of game = record { games = game ∷ []; matches = [] }

-- why no match of this game can be opened with this setup, or None if one can
abbrev pub match_refusal : {G S M : Type 0} → (G → Rules S M) → G → Setup → Option Refusal
match_refusal rules game setup = open_refusal rules (manager_of game) 0 setup
