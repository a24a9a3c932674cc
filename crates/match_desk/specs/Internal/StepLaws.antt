-- No call changes the opening of a manager.
use Rattle.std.specs.Prelude.{◌≡◌, ℕ, if◌then◌else◌, Bool, true, false, Option, Some, None, is_none, slice_get, refl}
use Rattle.game_core.specs.Play.{Rules}
use Rattle.desk_calls.specs.declared.setup.Setup.{Setup}
use Rattle.match_desk.specs.ManagerValue.{ManagerValue, opening}
use Rattle.match_desk.specs.Open.{open_refusal, with_new_match, after_open}
use Rattle.match_desk.specs.Steps.{setup_of, after}
use Rattle.desk_calls.specs.declared.call.Call.{Call}
use Rattle.desk_calls.specs.declared.call.Call.TheVariants.{Open, Next, Submit, Miss, Query, Abort}

opening-with_new_match : {G S M : Type 0} (rules : G → Rules S M) (d : ManagerValue G M) (game : ℕ) (setup : Setup) (o : Option G) → opening (with_new_match rules d game setup o) ≡ opening d
opening-with_new_match rules d game setup None = refl
opening-with_new_match rules d game setup (Some g) = refl

opening-after_open : {G S M : Type 0} (rules : G → Rules S M) (d : ManagerValue G M) (game : ℕ) (setup : Setup) → opening (after_open rules d game setup) ≡ opening d
opening-after_open rules d game setup = step (is_none (open_refusal rules d game setup))
  where
    step : (b : Bool) → opening (if b then with_new_match rules d game setup (slice_get d.games game) else d) ≡ opening d
    step true = opening-with_new_match rules d game setup (slice_get d.games game)
    step false = refl

pub opening-after : {G S M : Type 0} (rules : G → Rules S M) (d : ManagerValue G M) (call : Call) → opening (after rules d call) ≡ opening d
opening-after rules d (Open id game start play strikes players) = opening-after_open rules d game (setup_of id start play strikes players)
opening-after rules d (Next id role) = refl
opening-after rules d (Submit id role round text) = refl
opening-after rules d (Miss id role round broken) = refl
opening-after rules d (Query id) = refl
opening-after rules d (Abort id) = refl
