-- The phases of a match.
use Rattle.std.specs.Prelude.{ℕ, Bool, true, false, List, codes}
use Rattle.desk_calls.specs.declared.phase.Phase.{Phase}
use Rattle.desk_calls.specs.declared.phase.Phase.TheVariants.{Starting, Playing, Stopping, Finished, Aborting, Aborted}

abbrev pub is_last : Phase → Bool
is_last Starting = false
is_last Playing = false
is_last Stopping = false
is_last Finished = true
is_last Aborting = false
is_last Aborted = true

-- the phase's word in replies and records
abbrev pub phase_text : Phase → List ℕ
phase_text Starting = codes "starting"
phase_text Playing = codes "playing"
phase_text Stopping = codes "stopping"
phase_text Finished = codes "finished"
phase_text Aborting = codes "aborting"
phase_text Aborted = codes "aborted"
