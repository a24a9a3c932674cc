-- The check of a player in each role of a game.
use Rattle.std.specs.Prelude.{◌≡◌, ◌==◌, ◌<◌, ◌≤◌, ◌++◌, ◌∷◌, [], ℕ, List, Option, IfSome, codes, is_some, length, map, min, option_and_then, take}
use Rattle.std.specs.Fmt.{decimal}
use Rattle.std.specs.Io.KnownBytes.{Appends}
use Rattle.std.specs.List.{concat, sum_by}
use Rattle.game_core.specs.Counting.{last_count}
use Rattle.game_core.specs.Play.{Rules}
use Rattle.ground_rules.specs.LoadedGame.{loaded_game}
use Rattle.packed_rules.specs.PackedGames.{tables_of}
use Rattle.desk_calls.specs.declared.setup.Setup.{Setup}
use Rattle.match_plans.specs.declared.addresses.PlayerAddress.{PlayerAddress}
use Rattle.match_plans.specs.declared.plan.CheckPlan.{CheckPlan}
use Rattle.match_plans.specs.declared.plan.MatchPlan.{MatchPlan}
use Rattle.match_plans.specs.declared.reach.RolePlace.{RolePlace}
use Rattle.match_messages.specs.Handing.{Handed}
use Rattle.role_workers.specs.Places.{EachAt}
use Rattle.match_play.specs.Limits.{max_tries}
use Rattle.match_play.specs.PlayedMatches.{AreReached, IsSetupOf}
use Rattle.match_play.specs.declared.playable_game.PlayableGame.{PlayableGame}
use Rattle.player_commands.specs.RoleTurns.{ArePlayedTurns}
use Rattle.player_commands.specs.declared.role_turns.RoleTurn.{RoleTurn}
use Rattle.player_commands.specs.Rows.{bad_answers}
use Rattle.player_commands.specs.Seats.{IsPlanFor}
use Rattle.player_commands.specs.Tables.{AreRows, header}
use Rattle.player_commands.specs.declared.check.CheckFault.{CheckFault}
use Rattle.player_commands.specs.declared.check.CheckFault.TheVariants.{WriteFault}
use Rattle.player_commands.specs.declared.watched.Exchange.{Exchange}
use Rattle.player_commands.specs.declared.watched.CheckedPlayer.{CheckedPlayer}

-- the id of the match that checks the player in this role
abbrev pub match_id : ℕ → List ℕ
match_id role = codes "check-" ++ decimal role

-- A player of this match is watched if and only if it has this role. If it is watched, the player that it wraps was reached at the address.
abbrev pub is_watched : (H : Type 0) → {P : Type 0} → (RolePlace → PlayerAddress → P → Type 0) → ℕ → RolePlace → PlayerAddress → CheckedPlayer H P → Type 0
is_watched H is_reached role at address participant = (is_some participant.watched ≡ (at.role == role)) × IfSome participant.watched (is_reached at address)

-- the messages to a player of the match: if it is watched, the messages to the player inside it
abbrev pub watched_handed : (H : Type 0) → {P : Type 0} → (P → Option (List Handed)) → CheckedPlayer H P → Option (List Handed)
watched_handed H handed participant = option_and_then handed participant.watched

-- A match of this game was played. In this match, the checked player had this role and got the role's messages. These are the role's turns.
pub record AreTurnsIn (H : Type 0) {P : Type 0} (is_reached : RolePlace → PlayerAddress → P → Type 0) (handed : P → Option (List Handed)) (game : PlayableGame) (plan : CheckPlan) (role : ℕ) (turns : List RoleTurn) : Type 0 where
  pub made : MatchPlan
  pub planned : IsPlanFor plan (match_id role) role (loaded_game (tables_of game.game.now)).roles made
  pub setup : Setup
  pub is_setup : IsSetupOf made setup
  pub participants : List (CheckedPlayer H P)
  pub reached : AreReached (is_watched H is_reached role) game.longest_move 0 made participants
  pub played : ArePlayedTurns (watched_handed H handed) game.game.now game.rules.now max_tries setup participants role turns

-- These are the rows, and the number of bad answers, for some exchanges and for the role's turns. No contract says which exchanges took
-- place.
pub record IsToldOf (AreTurns : List RoleTurn → Type 0) (role : List ℕ) (rows : List ℕ) (bad : ℕ) : Type 0 where
  pub exchanges : List Exchange
  pub turns : List RoleTurn
  pub are_turns : AreTurns turns
  pub are_rows : AreRows role exchanges turns rows
  pub is_bad : bad ≡ bad_answers exchanges turns

-- the rows of a role, and its number of bad answers
pub record Told : Type 0 where
  pub rows : List ℕ
  pub bad : ℕ

abbrev pub all_rows : List Told → List ℕ
all_rows roles = concat (map (λ told. told.rows) roles)

-- the number of bad answers of these roles, up to the limit of a count
abbrev pub all_bad : List Told → ℕ
all_bad roles = min (sum_by (λ told. told.bad) roles) last_count

-- the table of these roles: the header, and then their rows; empty if there are no roles
abbrev pub table_text : List Told → List ℕ
table_text [] = []
table_text (role ∷ roles) = header ++ all_rows (role ∷ roles)

-- The text is the table of the first `count` roles of a game, in order. These roles have this number of bad answers.
pub record IsTable {S M : Type 0} (AreTurns : ℕ → List RoleTurn → Type 0) (g : Rules S M) (count bad : ℕ) (text : List ℕ) : Type 0 where
  pub roles : List Told
  pub so_many : length roles ≡ count
  pub each : EachAt (λ role told. IsToldOf (AreTurns role) (g.role_name role) told.rows told.bad) roles
  pub is_bad : bad ≡ all_bad roles
  pub is_text : text ≡ table_text roles

abbrev pub roles_of : PlayableGame → ℕ
roles_of game = (loaded_game (tables_of game.game.now)).roles

module _ (H : Type 0) {P : Type 0} (is_reached : RolePlace → PlayerAddress → P → Type 0) (handed : P → Option (List Handed)) (game : PlayableGame) (plan : CheckPlan) where
  abbrev pub IsTableOf : ℕ → ℕ → List ℕ → Type 0
  IsTableOf count bad text = IsTable (AreTurnsIn H is_reached handed game plan) (loaded_game (tables_of game.game.now)) count bad text

  -- the table of all roles was written
  abbrev pub WritesCheck : ℕ → Option (List ℕ) → Option (List ℕ) → Type 0
  WritesCheck bad old new = (text : List ℕ) × IsTableOf (roles_of game) bad text × Appends old new text

  -- the table of the first roles, but not of all roles, was written
  abbrev pub WritesEarlier : Option (List ℕ) → Option (List ℕ) → Type 0
  WritesEarlier old new = (count bad : ℕ) × (text : List ℕ) × (count < roles_of game) × IsTableOf count bad text × Appends old new text

  -- a prefix of the table of the first roles (one or more) was written
  abbrev pub WritesPart : Option (List ℕ) → Option (List ℕ) → Type 0
  WritesPart old new = (count bad taken : ℕ) × (text : List ℕ) × (0 < count) × (count ≤ roles_of game) × IsTableOf count bad text
      × (taken ≤ length text) × Appends old new (take taken text)

  -- the output of a check that ended early with this error
  abbrev pub EndsEarly : CheckFault → Option (List ℕ) → Option (List ℕ) → Type 0
  EndsEarly WriteFault old new = WritesPart old new
  EndsEarly fault old new = WritesEarlier old new
