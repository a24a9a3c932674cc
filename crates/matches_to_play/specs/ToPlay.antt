-- The matches of a season that must be played.
use Rattle.std.specs.Prelude.{◌≡◌, ◌⊎◌, ℕ, Bool, true, List, MatchOption, Option, filter, is_some, map, not}
use Rattle.std.specs.List.{AllZip}
use Rattle.std.specs.Str.Lines.{lines}
use Rattle.ground_rules.specs.LoadedGame.{loaded_game}
use Rattle.packed_rules.specs.PackedGames.{tables_of}
use Rattle.packed_rules.specs.declared.packed_game.PackedGame.{PackedGame}
use Rattle.match_plans.specs.Schedules.{cut_lines, match_lines, IsBadLine, IsPlanned}
use Rattle.match_plans.specs.declared.plan.MatchPlan.{MatchPlan}
use Rattle.match_plans.specs.declared.schedule_fault.ScheduleFault.{ScheduleFault}
use Rattle.command_faults.specs.Faults.{IsFileFault, schedule_fault}
use Rattle.command_faults.specs.declared.fault.Fault.{Fault}
use Rattle.command_faults.specs.declared.fault.Fault.TheVariants.{Memory}
use Rattle.command_faults.specs.declared.files.NamedFile.TheVariants.{Records}
use Rattle.matches_to_play.specs.Done.{AreDone, is_noted, match_names}
use Rattle.matches_to_play.specs.declared.done.DoneMatches.{DoneMatches}

-- no match with the plan's id and players is over
abbrev pub is_left : DoneMatches → MatchPlan → Bool
is_left noted plan = not (is_noted noted (match_names plan.id.now (map (λ p. p.name.now) plan.players.items)))

abbrev pub left_of : DoneMatches → List MatchPlan → List MatchPlan
left_of noted plans = filter (is_left noted) plans

-- If a file of finished matches is named, these are the matches that are not over according to the records in the lines of some text.
-- Otherwise they are all matches.
abbrev pub AreLeft : {F : Type 0} → PackedGame → Option F → List MatchPlan → List MatchPlan → Type 0
AreLeft game file all plans =
    MatchOption file (plans ≡ all) (λ name. (noted : DoneMatches) × ((records : List ℕ) × AreDone (loaded_game (tables_of game)) (lines records) noted) × (plans ≡ left_of noted all))

-- The matches of a schedule with this number of strikes, except those that are over according to the file of finished matches.
abbrev pub AreUndone : {F : Type 0} → PackedGame → ℕ → Option F → List ℕ → List MatchPlan → Type 0
AreUndone game strikes done schedule plans = (all : List MatchPlan) × AllZip (IsPlanned strikes) (match_lines schedule) all × AreLeft game done all plans

-- The matches of `AreUndone`, except those that are over according to the file for appending records, if there is one.
abbrev pub AreToPlay : {F G : Type 0} → PackedGame → ℕ → Option F → Option G → List ℕ → List MatchPlan → Type 0
AreToPlay game strikes done records schedule plans = (undone : List MatchPlan) × AreUndone game strikes done schedule undone × AreLeft game records undone plans

-- Why there are no matches: memory ran out, the schedule has a bad line, or the file of finished matches cannot be read.
abbrev pub HasNoUndone : {F : Type 0} → PackedGame → ℕ → Option F → List ℕ → Fault → Type 0
HasNoUndone game strikes done schedule fault = (fault ≡ Memory)
    ⊎ (((bad : ScheduleFault) × (fault ≡ schedule_fault bad) × IsBadLine (loaded_game (tables_of game)).roles strikes (cut_lines schedule) bad)
    ⊎ ((is_some done ≡ true) × IsFileFault Records fault))

-- Why there are no matches to play: one of these reasons, or the file for appending records cannot be read or written.
abbrev pub HasNoPlans : {F G : Type 0} → PackedGame → ℕ → Option F → Option G → List ℕ → Fault → Type 0
HasNoPlans game strikes done records schedule fault = HasNoUndone game strikes done schedule fault ⊎ ((is_some records ≡ true) × IsFileFault Records fault)
