-- Players whose messages are logged.
use Rattle.std.specs.Prelude.{List, Option}
use Rattle.match_plans.specs.declared.addresses.PlayerAddress.{PlayerAddress}
use Rattle.match_plans.specs.declared.reach.RolePlace.{RolePlace}
use Rattle.match_messages.specs.Handing.{Handed}
use Rattle.match_log.specs.declared.logging.LoggedPlayer.{LoggedPlayer}

-- a logged player has received what the player inside it has received
abbrev pub logged_handed : (H : Type 0) → {P : Type 0} → (P → Option (List Handed)) → LoggedPlayer H P → Option (List Handed)
logged_handed H handed logged = handed logged.player

abbrev pub is_logged_reached : (H : Type 0) → {P : Type 0} → (RolePlace → PlayerAddress → P → Type 0) → RolePlace → PlayerAddress → LoggedPlayer H P → Type 0
is_logged_reached H is_reached at address logged = is_reached at address logged.player
