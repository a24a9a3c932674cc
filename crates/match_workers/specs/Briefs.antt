-- The data of a match that the players get.
use Rattle.std.specs.Prelude.{◌≡◌, ℕ, ◌<◌, List, [], length, slice_index_or}
use Rattle.game_core.specs.Play.{Rules}
use Rattle.desk_calls.specs.declared.setup.Setup.{Setup}
use Rattle.match_messages.specs.BriefValue.{BriefValue}

pub record AreRoleNames {S M : Type 0} (g : Rules S M) (names : List (List ℕ)) : Type 0 where
  pub one_each : length names ≡ g.roles
  pub each : (role : ℕ) → role < g.roles → slice_index_or names role [] ≡ g.role_name role

-- the setup's id and clocks, the names of the game's roles, and the text of these rules
pub record IsBriefOf {S M : Type 0} (g : Rules S M) (setup : Setup) (rules : List ℕ) (brief : BriefValue) : Type 0 where
  pub id : brief.id ≡ setup.id
  pub roles : AreRoleNames g brief.roles
  pub rules_are : brief.rules ≡ rules
  pub start : brief.start ≡ setup.start
  pub play : brief.play ≡ setup.play
