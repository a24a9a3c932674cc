-- The end of a season.
use Rattle.std.proofs.Common.{◌≡◌, ◌⊎◌, ℕ, List, length, Option, Some, Result, Ok, Err, IfOk, IfErr, true, inl, inr, refl, subst, sym}
use Rattle.std.specs.Prelude.{is_some}
use Rattle.match_messages.specs.Handing.{Handed}
use Rattle.match_plans.specs.declared.addresses.PlayerAddress.{PlayerAddress}
use Rattle.match_plans.specs.declared.plan.MatchPlan.{MatchPlan}
use Rattle.match_plans.specs.declared.reach.RolePlace.{RolePlace}
use Rattle.match_plans.specs.declared.season_form.SeasonForm.{SeasonForm}
use Rattle.match_play.specs.declared.playable_game.PlayableGame.{PlayableGame}
use Rattle.match_season.specs.Outputs.{IsOutputOf}
use Rattle.match_season.specs.Seasons.{WritesAllBut}
use Rattle.command_line.specs.declared.tasks.SeasonPlan.{SeasonPlan}
use Rattle.command_faults.specs.Faults.{IsFileFault}
use Rattle.command_faults.specs.declared.fault.Fault.{Fault}
use Rattle.command_faults.specs.declared.fault.Fault.TheVariants.{WriteFault}
use Rattle.command_faults.specs.declared.files.NamedFile.TheVariants.{Records}
use Rattle.ggp_commands.specs.Schedules.{GoesTo, WritesPlans, WritesPlansUpTo}
use Rattle.matches_to_play.specs.ToPlay.{AreLeft, AreToPlay, AreUndone, HasNoPlans}

-- If fewer matches are played at once, the same output is written.
pub same_output : {P : Type 0} (is_reached : RolePlace → PlayerAddress → P → Type 0) (handed : P → Option (List Handed)) (game : PlayableGame) (whole form : SeasonForm) (plans : List MatchPlan) (missing : ℕ) (old new : Option (List ℕ))
    → form ≡ record whole { at_once = form.at_once }
    → WritesAllBut (IsOutputOf is_reached handed game plans form.has_history) form.order missing (length plans) old new → WritesPlans is_reached handed game whole plans missing old new
same_output is_reached handed game whole form plans missing old new same written =
    subst (λ (f : SeasonForm). WritesAllBut (IsOutputOf is_reached handed game plans f.has_history) f.order missing (length plans) old new) same written

-- The outputs of the matches were written to the file of records, and the output does not change.
pub written_to_file : {P F : Type 0} (is_reached : RolePlace → PlayerAddress → P → Type 0) (handed : P → Option (List Handed)) (game : PlayableGame) (season : SeasonPlan) (schedule : List ℕ) (records : Option F) (path : F) (plans : List MatchPlan) (missing : ℕ) (old : Option (List ℕ))
    → records ≡ Some path → AreUndone game.game.now season.strikes season.done schedule plans
    → ((left : List MatchPlan) × AreLeft game.game.now (Some path) plans left × ((before : Option (List ℕ)) × (after : Option (List ℕ)) × WritesPlans is_reached handed game season.form left missing before after))
    → (played : List MatchPlan) × AreToPlay game.game.now season.strikes season.done records schedule played × GoesTo records (WritesPlans is_reached handed game season.form played missing) old old
written_to_file is_reached handed game season schedule records path plans missing old is undone found =
    subst (λ r. (played : List MatchPlan) × AreToPlay game.game.now season.strikes season.done r schedule played × GoesTo r (WritesPlans is_reached handed game season.form played missing) old old)
    (sym is) (found.0, (plans, undone, found.1), (refl, found.2))

-- The season ends as the call ends that plays its matches into the file.
pub season_into_file : {P F : Type 0} (is_reached : RolePlace → PlayerAddress → P → Type 0) (handed : P → Option (List Handed)) (game : PlayableGame) (season : SeasonPlan) (schedule : List ℕ) (records : Option F) (path : F) (plans : List MatchPlan) (old : Option (List ℕ))
    → records ≡ Some path → AreUndone game.game.now season.strikes season.done schedule plans
    → (result : Result ℕ Fault)
    → IfOk result (λ missing. (left : List MatchPlan) × AreLeft game.game.now (Some path) plans left × ((before : Option (List ℕ)) × (after : Option (List ℕ)) × WritesPlans is_reached handed game season.form left missing before after))
    → IfOk result (λ missing. (played : List MatchPlan) × AreToPlay game.game.now season.strikes season.done records schedule played × GoesTo records (WritesPlans is_reached handed game season.form played missing) old old)
season_into_file is_reached handed game season schedule records path plans old is undone (Ok missing) found = written_to_file is_reached handed game season schedule records path plans missing old is undone found
season_into_file is_reached handed game season schedule records path plans old is undone (Err fault) found = found

-- The file was lost after the matches were played. What holds for the call that plays them also holds for the season.
pub lost_file : {P F : Type 0} (is_reached : RolePlace → PlayerAddress → P → Type 0) (handed : P → Option (List Handed)) (game : PlayableGame) (season : SeasonPlan) (schedule : List ℕ) (records : Option F) (path : F) (plans : List MatchPlan) (fault : Fault) (old : Option (List ℕ))
    → records ≡ Some path → AreUndone game.game.now season.strikes season.done schedule plans
    → (fault ≡ WriteFault) × ((missing : ℕ) × (left : List MatchPlan) × AreLeft game.game.now (Some path) plans left × ((before : Option (List ℕ)) × (after : Option (List ℕ)) × WritesPlans is_reached handed game season.form left missing before after))
    → (is_some records ≡ true) × (fault ≡ WriteFault) × ((missing : ℕ) × ((played : List MatchPlan) × AreToPlay game.game.now season.strikes season.done records schedule played × GoesTo records (WritesPlans is_reached handed game season.form played missing) old old))
lost_file is_reached handed game season schedule records path plans fault old is undone lost =
    (subst (λ r. is_some r ≡ true) (sym is) refl, lost.0, (lost.1.0, written_to_file is_reached handed game season schedule records path plans lost.1.0 old is undone (lost.1.1, lost.1.2, lost.1.3)))

pub stopped_in_file : {P F : Type 0} (is_reached : RolePlace → PlayerAddress → P → Type 0) (handed : P → Option (List Handed)) (game : PlayableGame) (season : SeasonPlan) (schedule : List ℕ) (records : Option F) (path : F) (plans : List MatchPlan) (fault : Fault) (old : Option (List ℕ))
    → records ≡ Some path → AreUndone game.game.now season.strikes season.done schedule plans
    → ((IsFileFault Records fault
    ⊎ ((fault ≡ WriteFault) × ((missing : ℕ) × (left : List MatchPlan) × AreLeft game.game.now (Some path) plans left × ((before : Option (List ℕ)) × (after : Option (List ℕ)) × WritesPlans is_reached handed game season.form left missing before after))))
    ⊎ ((left : List MatchPlan) × AreLeft game.game.now (Some path) plans left × ((before : Option (List ℕ)) × (after : Option (List ℕ)) × WritesPlansUpTo is_reached handed game season.form left fault before after)))
    → ((HasNoPlans game.game.now season.strikes season.done records schedule fault × (old ≡ old))
    ⊎ ((is_some records ≡ true) × (fault ≡ WriteFault) × ((missing : ℕ) × ((played : List MatchPlan) × AreToPlay game.game.now season.strikes season.done records schedule played × GoesTo records (WritesPlans is_reached handed game season.form played missing) old old))))
    ⊎ ((played : List MatchPlan) × AreToPlay game.game.now season.strikes season.done records schedule played × GoesTo records (WritesPlansUpTo is_reached handed game season.form played fault) old old)
stopped_in_file is_reached handed game season schedule records path plans fault old is undone (inl (inl bad)) = inl (inl (inr (subst (λ r. is_some r ≡ true) (sym is) refl, bad), refl))
stopped_in_file is_reached handed game season schedule records path plans fault old is undone (inl (inr lost)) = inl (inr (lost_file is_reached handed game season schedule records path plans fault old is undone lost))
stopped_in_file is_reached handed game season schedule records path plans fault old is undone (inr part) =
    inr (subst (λ r. (played : List MatchPlan) × AreToPlay game.game.now season.strikes season.done r schedule played × GoesTo r (WritesPlansUpTo is_reached handed game season.form played fault) old old)
    (sym is) (part.0, (plans, undone, part.1), (refl, part.2)))

pub season_stops_in_file : {P F : Type 0} (is_reached : RolePlace → PlayerAddress → P → Type 0) (handed : P → Option (List Handed)) (game : PlayableGame) (season : SeasonPlan) (schedule : List ℕ) (records : Option F) (path : F) (plans : List MatchPlan) (old : Option (List ℕ))
    → records ≡ Some path → AreUndone game.game.now season.strikes season.done schedule plans
    → (result : Result ℕ Fault)
    → IfErr result (λ fault. (IsFileFault Records fault
    ⊎ ((fault ≡ WriteFault) × ((missing : ℕ) × (left : List MatchPlan) × AreLeft game.game.now (Some path) plans left × ((before : Option (List ℕ)) × (after : Option (List ℕ)) × WritesPlans is_reached handed game season.form left missing before after))))
    ⊎ ((left : List MatchPlan) × AreLeft game.game.now (Some path) plans left × ((before : Option (List ℕ)) × (after : Option (List ℕ)) × WritesPlansUpTo is_reached handed game season.form left fault before after)))
    → IfErr result (λ fault. ((HasNoPlans game.game.now season.strikes season.done records schedule fault × (old ≡ old))
    ⊎ ((is_some records ≡ true) × (fault ≡ WriteFault) × ((missing : ℕ) × ((played : List MatchPlan) × AreToPlay game.game.now season.strikes season.done records schedule played × GoesTo records (WritesPlans is_reached handed game season.form played missing) old old))))
    ⊎ ((played : List MatchPlan) × AreToPlay game.game.now season.strikes season.done records schedule played × GoesTo records (WritesPlansUpTo is_reached handed game season.form played fault) old old))
season_stops_in_file is_reached handed game season schedule records path plans old is undone (Ok missing) found = found
season_stops_in_file is_reached handed game season schedule records path plans old is undone (Err fault) found = stopped_in_file is_reached handed game season schedule records path plans fault old is undone found
