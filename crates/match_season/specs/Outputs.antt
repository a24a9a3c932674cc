-- The output of one match of a season.
use Rattle.std.specs.Prelude.{◌≡◌, ℕ, Bool, List, Option, Some, slice_get}
use Rattle.match_plans.specs.declared.addresses.PlayerAddress.{PlayerAddress}
use Rattle.match_plans.specs.declared.plan.MatchPlan.{MatchPlan}
use Rattle.match_plans.specs.declared.reach.RolePlace.{RolePlace}
use Rattle.match_messages.specs.Handing.{Handed}
use Rattle.match_play.specs.EndedMatches.{match_text}
use Rattle.match_play.specs.PlayedMatches.{IsPlannedMatch}
use Rattle.match_play.specs.declared.playable_game.PlayableGame.{PlayableGame}

-- The text is the output of the match that is planned at this index: its record as a line, followed by its call log if `has_account` is
-- true. The match is of this game. Its players were reached at the addresses of their roles, and got the game's rules.
abbrev pub IsOutputOf : {P : Type 0} → (RolePlace → PlayerAddress → P → Type 0) → (P → Option (List Handed)) → PlayableGame → List MatchPlan → Bool → ℕ → List ℕ → Type 0
IsOutputOf is_reached handed game plans has_account place text = (plan : MatchPlan) × (slice_get plans place ≡ Some plan) × (line : List ℕ) × (history : _)
    × IsPlannedMatch is_reached handed game place plan line history × (text ≡ match_text line history has_account)
