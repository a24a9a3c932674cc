-- The phase of a match, its round, and why it is aborted.
use Rattle.std.specs.Prelude.{ℕ, ◌+◌, ◌==◌, nat_le, Bool, true, false, if◌then◌else◌, length, Option, Some, None, is_none, not}
use Rattle.game_core.specs.Play.{Rules}
use Rattle.match_book.specs.Roles.{every_role, lowest_role, is_there}
use Rattle.match_book.specs.MatchValue.{MatchValue, state_after, substitutions}
use Rattle.match_book.specs.Retirement.{is_retired, are_all_retired}
use Rattle.match_book.specs.declared.phase.Cause.{Cause}
use Rattle.match_book.specs.declared.phase.Cause.TheVariants.{Asked, NoLegal, NoGoal, TooLong, AllRetired}
use Rattle.desk_calls.specs.Phases.{is_last}
use Rattle.match_book.specs.declared.phase.Stage.{Stage}
use Rattle.match_book.specs.declared.phase.Stage.TheVariants.{Starting, Playing, Stopping, Aborting}
use Rattle.desk_calls.specs.declared.phase.Phase.{Phase}
use Rattle.desk_calls.specs.declared.phase.Phase.TheVariants.{Starting as InStarting, Playing as InPlaying, Stopping as InStopping, Finished, Aborting as InAborting, Aborted}
use Rattle.desk_calls.specs.declared.phase.Status.{Status}

-- the largest number of turns of a match
abbrev pub max_turns : ℕ
max_turns = 10000

-- the stage in a terminal state, given the lowest role without a goal
abbrev pub after_the_end : Option ℕ → Stage
after_the_end None = Stopping
after_the_end (Some r) = Aborting (NoGoal r)

-- the stage in any other state, given the lowest role without a legal move and whether all roles are retired
abbrev pub before_the_end : Option ℕ → Bool → Stage
before_the_end None all_retired = if all_retired then Aborting AllRetired else Playing
before_the_end (Some r) all_retired = Aborting (NoLegal r)

abbrev pub has_no_goal : {S M : Type 0} → Rules S M → S → ℕ → Bool
has_no_goal g s r = is_none (g.goal s r)

abbrev pub has_no_move : {S M : Type 0} → Rules S M → S → ℕ → Bool
has_no_move g s r = length (g.legal s r) == 0

-- the settling rule in the state s after t turns, given whether these turns have retired all roles
unfoldable pub settled : {S M : Type 0} → Rules S M → ℕ → Bool → S → Stage
settled g t all_retired s = if g.terminal s then after_the_end (lowest_role g.roles (has_no_goal g s))
    else (if nat_le max_turns t then Aborting TooLong else before_the_end (lowest_role g.roles (has_no_move g s)) all_retired)

-- the stage of a match: a requested abort comes first, then missing START marks, then the settling rule
unfoldable pub stage : {S M : Type 0} → Rules S M → MatchValue M → Stage
stage g m = if m.abort_asked then Aborting Asked else (if every_role g.roles (is_there m.start_marks) then settled g (length m.turns) (are_all_retired g.roles m) (state_after g m.turns) else Starting)

-- the role is not retired, so it must answer in play
abbrev pub still_answers : {M : Type 0} → MatchValue M → ℕ → Bool
still_answers m r = not (is_retired m r)

-- if the match is at this stage, the role has answered this round
abbrev pub answered_in : {M : Type 0} → Stage → MatchValue M → ℕ → Bool
answered_in Starting m r = is_there m.start_marks r
answered_in Playing m r = if still_answers m r then is_there m.open_answers r else true
answered_in Stopping m r = is_there m.end_marks r
answered_in (Aborting c) m r = is_there m.end_marks r

abbrev pub has_answered : {S M : Type 0} → Rules S M → MatchValue M → ℕ → Bool
has_answered g m r = answered_in (stage g m) m r

abbrev pub phase_in : Stage → Bool → Phase
phase_in Starting all_ended = InStarting
phase_in Playing all_ended = InPlaying
phase_in Stopping all_ended = if all_ended then Finished else InStopping
phase_in (Aborting c) all_ended = if all_ended then Aborted else InAborting

-- a match is finished or aborted once all end marks are present
abbrev pub phase : {S M : Type 0} → Rules S M → MatchValue M → Phase
phase g m = phase_in (stage g m) (every_role g.roles (is_there m.end_marks))

abbrev pub is_over : {S M : Type 0} → Rules S M → MatchValue M → Bool
is_over g m = is_last (phase g m)

abbrev pub is_playing : Stage → Bool
is_playing Starting = false
is_playing Playing = true
is_playing Stopping = false
is_playing (Aborting c) = false

-- neither stopping nor aborting
abbrev pub is_live : Stage → Bool
is_live Starting = true
is_live Playing = true
is_live Stopping = false
is_live (Aborting c) = false

-- a requested abort ends the open round
abbrev pub aborting_round : Cause → Bool → ℕ → ℕ
aborting_round Asked all_started t = if all_started then t + 2 else 1
aborting_round (NoLegal r) all_started t = t + 1
aborting_round (NoGoal r) all_started t = t + 1
aborting_round TooLong all_started t = t + 1
aborting_round AllRetired all_started t = t + 1

-- the round, given the stage, whether all START marks are present, and the number of turns
abbrev pub round_in : Stage → Bool → ℕ → ℕ
round_in Starting all_started t = 0
round_in Playing all_started t = t + 1
round_in Stopping all_started t = t + 1
round_in (Aborting c) all_started t = aborting_round c all_started t

abbrev pub round : {S M : Type 0} → Rules S M → MatchValue M → ℕ
round g m = round_in (stage g m) (every_role g.roles (is_there m.start_marks)) (length m.turns)

abbrev pub cause_in : Stage → Option Cause
cause_in Starting = None
cause_in Playing = None
cause_in Stopping = None
cause_in (Aborting c) = Some c

abbrev pub cause : {S M : Type 0} → Rules S M → MatchValue M → Option Cause
cause g m = cause_in (stage g m)

-- roles have goals once the match has stopped
abbrev pub goal_in : {S M : Type 0} → Stage → Rules S M → S → ℕ → Option ℕ
goal_in Starting g s r = None
goal_in Playing g s r = None
goal_in Stopping g s r = g.goal s r
goal_in (Aborting c) g s r = None

abbrev pub goal_of : {S M : Type 0} → Rules S M → MatchValue M → ℕ → Option ℕ
goal_of g m r = goal_in (stage g m) g (state_after g m.turns) r

abbrev pub status : {S M : Type 0} → Rules S M → MatchValue M → Status
status g m = record { phase = phase g m; round = round g m; turns = length m.turns; substitutions = substitutions m.turns }
