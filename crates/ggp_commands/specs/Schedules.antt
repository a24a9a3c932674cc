-- The matches of a season that must be played.
use Rattle.std.specs.Prelude.{◌≡◌, ◌⊎◌, ℕ, Bool, true, false, List, MatchOption, Option, is_some, length, not}
use Rattle.command_faults.specs.declared.fault.Fault.{Fault}
use Rattle.command_faults.specs.declared.fault.Fault.TheVariants.{WriteFault}
use Rattle.matches_to_play.specs.ToPlay.{AreToPlay, HasNoPlans}
use Rattle.command_line.specs.declared.tasks.MatchTask.{MatchTask}
use Rattle.command_line.specs.declared.tasks.MatchTask.TheVariants.{Season}
use Rattle.command_line.specs.declared.tasks.SeasonPlan.{SeasonPlan}
use Rattle.match_plans.specs.declared.addresses.PlayerAddress.{PlayerAddress}
use Rattle.match_plans.specs.declared.plan.MatchPlan.{MatchPlan}
use Rattle.match_plans.specs.declared.reach.RolePlace.{RolePlace}
use Rattle.match_plans.specs.declared.season_form.SeasonForm.{SeasonForm}
use Rattle.match_messages.specs.Handing.{Handed}
use Rattle.match_play.specs.declared.playable_game.PlayableGame.{PlayableGame}
use Rattle.match_season.specs.Outputs.{IsOutputOf}
use Rattle.match_season.specs.Seasons.{WritesAllBut, WritesUpTo}
use Rattle.match_season.specs.declared.season_output.SeasonFault.{SeasonFault}
use Rattle.ggp_commands.specs.Faults.{season_fault}

abbrev pub has_schedule : MatchTask → Bool
has_schedule (Season plan) = true
has_schedule task = false

-- The outputs of these matches, except the missing ones, were written in this form. Each match is a match of this game.
-- Its players were reached at the addresses of their roles, and got the game's rules.
abbrev pub WritesPlans : {P : Type 0} → (RolePlace → PlayerAddress → P → Type 0) → (P → Option (List Handed)) → PlayableGame → SeasonForm → List MatchPlan → ℕ → Option (List ℕ) → Option (List ℕ) → Type 0
WritesPlans is_reached handed game form plans missing old new = WritesAllBut (IsOutputOf is_reached handed game plans form.has_history) form.order missing (length plans) old new

-- The output for these matches before this error, as `match_season` specifies it.
abbrev pub WritesPlansUpTo : {P : Type 0} → (RolePlace → PlayerAddress → P → Type 0) → (P → Option (List Handed)) → PlayableGame → SeasonForm → List MatchPlan → Fault → Option (List ℕ) → Option (List ℕ) → Type 0
WritesPlansUpTo is_reached handed game form plans fault old new =
    (why : SeasonFault) × (fault ≡ season_fault why) × WritesUpTo (IsOutputOf is_reached handed game plans form.has_history) form.order (length plans) old new why

-- The text is written to the named file, and the output does not change. If no file is named, the text is written to the output.
abbrev pub GoesTo : {F : Type 0} → Option F → (Option (List ℕ) → Option (List ℕ) → Type 0) → Option (List ℕ) → Option (List ℕ) → Type 0
GoesTo file Writes old new = MatchOption file (Writes old new) (λ name. (new ≡ old) × ((before : Option (List ℕ)) × (after : Option (List ℕ)) × Writes before after))

-- The outputs of the matches to play, except the missing ones, were written to the output or to the file of records.
abbrev pub WritesSeason : {P : Type 0} → (RolePlace → PlayerAddress → P → Type 0) → (P → Option (List Handed)) → PlayableGame → SeasonPlan → List ℕ → ℕ → Option (List ℕ) → Option (List ℕ) → Type 0
WritesSeason is_reached handed game season schedule missing old new = (plans : List MatchPlan) × AreToPlay game.game.now season.strikes season.done season.records schedule plans
    × GoesTo season.records (WritesPlans is_reached handed game season.form plans missing) old new

-- The season was played, but afterwards the path of its file of records no longer named that file. The error is a write fault.
abbrev pub LosesFile : {P : Type 0} → (RolePlace → PlayerAddress → P → Type 0) → (P → Option (List Handed)) → PlayableGame → SeasonPlan → List ℕ → Fault → Option (List ℕ) → Option (List ℕ) → Type 0
LosesFile is_reached handed game season schedule fault old new = (is_some season.records ≡ true) × (fault ≡ WriteFault)
    × ((missing : ℕ) × WritesSeason is_reached handed game season schedule missing old new)

-- The output of a season that ended with this error: nothing if there are no plans, everything if its file of records
-- was lost after the last match, and otherwise the outputs before the error.
abbrev pub WritesSeasonUpTo : {P : Type 0} → (RolePlace → PlayerAddress → P → Type 0) → (P → Option (List Handed)) → PlayableGame → SeasonPlan → List ℕ → Option (List ℕ) → Option (List ℕ) → Fault → Type 0
WritesSeasonUpTo is_reached handed game season schedule old new fault =
    ((HasNoPlans game.game.now season.strikes season.done season.records schedule fault × (new ≡ old))
    ⊎ LosesFile is_reached handed game season schedule fault old new)
    ⊎ ((plans : List MatchPlan) × AreToPlay game.game.now season.strikes season.done season.records schedule plans
    × GoesTo season.records (WritesPlansUpTo is_reached handed game season.form plans fault) old new)
