-- The output of a single match.
use Rattle.std.specs.Prelude.{◌≡◌, ℕ, List, Option, Some}
use Rattle.std.specs.Io.KnownBytes.{Appends}
use Rattle.desk_calls.specs.declared.call.Refusal.{Refusal}
use Rattle.desk_calls.specs.declared.setup.Setup.{Setup}
use Rattle.match_plans.specs.declared.addresses.PlayerAddress.{PlayerAddress}
use Rattle.match_plans.specs.declared.plan.MatchPlan.{MatchPlan}
use Rattle.match_plans.specs.declared.reach.RolePlace.{RolePlace}
use Rattle.match_messages.specs.Handing.{Handed}
use Rattle.match_play.specs.EndedMatches.{match_text}
use Rattle.match_play.specs.PlayedMatches.{IsPlannedMatch, IsSetupOf, packed_refusal}
use Rattle.match_play.specs.declared.playable_game.PlayableGame.{PlayableGame}
use Rattle.whole_streams.specs.Streams.{AppendsPart}
use Rattle.command_line.specs.declared.tasks.RunPlan.{RunPlan}
use Rattle.command_faults.specs.declared.fault.Fault.{Fault}
use Rattle.command_faults.specs.declared.fault.Fault.TheVariants.{Refused, WriteFault}

-- The record of a match was written, followed by its call log if the plan asks for it. The match has this plan, and is a match of this
-- game. Its players were reached at the addresses of their roles, and got the game's rules.
abbrev pub WritesRun : {P : Type 0} → (RolePlace → PlayerAddress → P → Type 0) → (P → Option (List Handed)) → PlayableGame → RunPlan → Option (List ℕ) → Option (List ℕ) → Type 0
WritesRun is_reached handed game run old new = (line : List ℕ) × (history : _) × IsPlannedMatch is_reached handed game 0 run.plan line history
    × Appends old new (match_text line history run.has_history)

-- a desk refuses a match of this game with this plan, for this reason
abbrev pub IsRefusedFor : PlayableGame → MatchPlan → Refusal → Type 0
IsRefusedFor game plan reason = (setup : Setup) × IsSetupOf plan setup × (packed_refusal game.game.now setup ≡ Some reason)

-- The output of a single match that ended with this error: a prefix of the match's whole output if a write failed, and
-- otherwise nothing. If the desk refused the match, the error gives the reason.
abbrev pub WritesRunUpTo : {P : Type 0} → (RolePlace → PlayerAddress → P → Type 0) → (P → Option (List Handed)) → PlayableGame → RunPlan → Option (List ℕ) → Option (List ℕ) → Fault → Type 0
WritesRunUpTo is_reached handed game run old new WriteFault = (line : List ℕ) × (history : _) × IsPlannedMatch is_reached handed game 0 run.plan line history
    × AppendsPart old new (match_text line history run.has_history)
WritesRunUpTo is_reached handed game run old new (Refused reason) = (new ≡ old) × IsRefusedFor game run.plan reason
WritesRunUpTo is_reached handed game run old new fault = new ≡ old
