-- The result of a match between players, and what holds for it.
use Rattle.std.specs.Prelude.{◌≡◌, ℕ, List, length, map, slice_get, Option, IfSome, Result}
use Rattle.ground_rules.specs.LoadedGame.{loaded_game}
use Rattle.ground_rules.specs.declared.state.GroundMove.{GroundMove}
use Rattle.packed_rules.specs.PackedGames.{tables_of}
use Rattle.packed_rules.specs.declared.packed_game.PackedGame.{PackedGame}
use Rattle.call_history.specs.declared.journal.Entry.{Entry}
use Rattle.desk_calls.specs.declared.setup.Setup.{Setup}
use Rattle.desk_calls.specs.declared.call.Refusal.{Refusal}
use Rattle.match_book.specs.MatchValue.{GameMatch}
use Rattle.match_desk.specs.ManagerValue.{ManagerValue}
use Rattle.desk_calls.specs.declared.call.Call.{Call}
use Rattle.desk_calls.specs.declared.call.Reply.{Reply}
use Rattle.match_plans.specs.declared.addresses.PlayerAddress.{PlayerAddress}
use Rattle.match_plans.specs.declared.plan.MatchPlan.{MatchPlan}
use Rattle.match_plans.specs.declared.reach.RolePlace.{RolePlace}
use Rattle.role_workers.specs.declared.attend_fault.AttendFault.{AttendFault}
use Rattle.match_messages.specs.Handing.{Handed}
use Rattle.role_workers.specs.Places.{EachAt}
use Rattle.match_workers.specs.Refereeing.{IsRefereed}
use Rattle.match_workers.specs.Refusals.{match_refusal}
use Rattle.match_play.specs.Limits.{max_tries}
use Rattle.match_play.specs.Matches.{HasEndedMatch, IsEndedRecord}
use Rattle.match_play.specs.declared.playable_game.PlayableGame.{PlayableGame}

-- the setup has the plan's id, clocks, strikes and names
pub record IsSetupOf (plan : MatchPlan) (setup : Setup) : Type 0 where
  pub id : setup.id ≡ plan.id.now
  pub start : setup.start ≡ plan.start
  pub play : setup.play ≡ plan.play
  pub strikes : setup.strikes ≡ plan.strikes
  pub names : setup.players ≡ map (λ p. p.name.now) plan.players.items

-- a role of the match that is planned at this index; the game's longest move has this length
abbrev pub role_place : ℕ → ℕ → MatchPlan → ℕ → RolePlace
role_place longest place plan role = record { place = place; id = plan.id; role = role; longest_move = longest }

-- There is a player for each address of the plan, and each was reached at the address of its role.
pub record AreReached {P : Type 0} (is_reached : RolePlace → PlayerAddress → P → Type 0) (longest place : ℕ) (plan : MatchPlan) (players : List P) : Type 0 where
  pub count : length players ≡ length plan.players.items
  pub each : EachAt (λ role player. IfSome (slice_get plan.players.items role) (λ address. is_reached (role_place longest place plan role) address player)) players

-- why a new desk with only this game refuses this setup; None if it opens the match
abbrev pub packed_refusal : PackedGame → Setup → Option Refusal
packed_refusal game setup = match_refusal (λ g. loaded_game (tables_of g)) game setup

-- A match of this game was opened with this setup and played by these players, who got these printed rules. The text is its record, and
-- this is the history of its desk.
pub record IsPlayedMatch {P : Type 0} (handed : P → Option (List Handed)) (game : PackedGame) (rules : List ℕ) (tries : ℕ) (setup : Setup) (players : List P) (text : List ℕ) (history : List (Entry Call Reply)) : Type 0 where
  pub desk : ManagerValue PackedGame _
  pub ended : IsEndedRecord (λ g. loaded_game (tables_of g)) desk text
  pub made_by_line : List ℕ
  -- how the worker of each player ended, and the players afterwards
  pub ends : List (Result ℕ AttendFault)
  pub left : List P
  pub refereed : IsRefereed (λ g. loaded_game (tables_of g)) handed game setup rules tries players left desk history made_by_line ends

-- A match of this game was opened with this setup and played by these players, who got these printed rules. The match is over, and `IsSo`
-- holds for it.
pub record IsEndedWith {P : Type 0} (handed : P → Option (List Handed)) (game : PackedGame) (rules : List ℕ) (tries : ℕ) (setup : Setup) (players : List P) (IsSo : GameMatch PackedGame GroundMove → Type 0) : Type 0 where
  pub desk : ManagerValue PackedGame GroundMove
  pub held : GameMatch PackedGame GroundMove
  pub ended : HasEndedMatch (λ g. loaded_game (tables_of g)) desk held
  pub is_so : IsSo held
  pub history : List (Entry Call Reply)
  pub made_by_line : List ℕ
  pub ends : List (Result ℕ AttendFault)
  pub left : List P
  pub refereed : IsRefereed (λ g. loaded_game (tables_of g)) handed game setup rules tries players left desk history made_by_line ends

-- A match of this game was played as the plan at this index says. Its players were reached at the addresses of their roles, and got the
-- game's rules. The text is its record, and this is the history of its desk.
abbrev pub IsPlannedMatch : {P : Type 0} → (RolePlace → PlayerAddress → P → Type 0) → (P → Option (List Handed)) → PlayableGame → ℕ → MatchPlan → List ℕ → List (Entry Call Reply) → Type 0
IsPlannedMatch {P} is_reached handed game place plan text history = (setup : _) × IsSetupOf plan setup × (players : List P) × AreReached is_reached game.longest_move place plan players
    × IsPlayedMatch handed game.game.now game.rules.now max_tries setup players text history
