-- Definitions about a replay that only private functions use.
use Rattle.std.specs.Prelude.{◌≡◌, ◌==◌, ◌↔◌, ℕ, ◌<◌, Bool, true, false, IsTrue, if◌then◌else◌, List, length, map, slice_index_or, Result, Ok, Err}
use Rattle.game_core.specs.Play.{Rules, IsJoint}
use Rattle.match_book.specs.Roles.{every_role, is_there, blank}
use Rattle.match_book.specs.Judgement.{NamesNone, IsPart}
use Rattle.match_book.specs.MatchValue.{state_after}
use Rattle.match_book.specs.Retirement.{retired_by}
use Rattle.match_book.specs.Phase.{phase_in, cause_in, is_live}
use Rattle.match_book.specs.declared.phase.Cause.TheVariants.{Asked}
use Rattle.match_book.specs.declared.phase.Stage.{Stage}
use Rattle.match_book.specs.declared.phase.Stage.TheVariants.{Starting, Aborting}
use Rattle.match_book.specs.declared.turn.Turn.{Turn}
use Rattle.record_check.specs.Replaying.{GoesOn, IsWrongError, IsWrongRetired, AreRightBelow, text_at, IsReplayed, IsFirstFault, IsRightEnd, is_asked}
use Rattle.record_reading.specs.declared.record_parts.RecordParts.{RecordParts}
use Rattle.record_check.specs.declared.recorded_turn.RecordedMove.{RecordedMove}
use Rattle.record_check.specs.declared.recorded_turn.RecordedMove.TheVariants.{Right, NoMove, WrongError, WrongRetired as AgainstRetirement}
use Rattle.record_reading.specs.declared.verify_fault.VerifyFault.{VerifyFault}
use Rattle.record_reading.specs.declared.verify_fault.VerifyFault.TheVariants.{NotJson, BadShape, Illegal, NotFirst, WrongRetired, WrongState, WrongGoals, WrongEnd, Memory}

-- the result for a recorded move with this text and error; `retired` says whether the role with these legal moves is retired
abbrev pub IsRecorded : {S M : Type 0} → Rules S M → Bool → List M → List ℕ → List ℕ → RecordedMove M → Type 0
IsRecorded g retired moves text error (Right m) = (g.move_text m ≡ text) × IsPart g retired moves m error
IsRecorded g retired moves text error NoMove = NamesNone g moves text
IsRecorded g retired moves text error WrongError = IsWrongError g moves text error
IsRecorded g retired moves text error AgainstRetirement = IsWrongRetired g retired moves text error

-- the joint move has these texts, and can have these errors, if these roles are retired
pub record IsRightJoint {S M : Type 0} (g : Rules S M) (retired : ℕ → Bool) (s : S) (moves errors : List (List ℕ)) (played : List M) : Type 0 where
  pub goes_on : GoesOn g retired s
  pub joint : IsJoint g s played
  pub texts : map g.move_text played ≡ moves
  pub parts : (r : ℕ) (d : M) → r < g.roles → IsPart g (retired r) (g.legal s r) (slice_index_or played r d) (text_at errors r)

-- the error of a turn with these moves and errors in the state s, if these roles are retired
abbrev pub IsTurnFault : {S M : Type 0} → Rules S M → (ℕ → Bool) → S → (moves errors : List (List ℕ)) → ℕ → VerifyFault → Type 0
IsTurnFault g retired s moves errors turn NotJson = ⊥
IsTurnFault g retired s moves errors turn (BadShape key) = ⊥
IsTurnFault g retired s moves errors turn (Illegal t r) = (t ≡ turn) × AreRightBelow g retired s moves errors r × NamesNone g (g.legal s r) (text_at moves r)
IsTurnFault g retired s moves errors turn (NotFirst t r) = (t ≡ turn) × AreRightBelow g retired s moves errors r × IsWrongError g (g.legal s r) (text_at moves r) (text_at errors r)
IsTurnFault g retired s moves errors turn (WrongRetired t r) = (t ≡ turn) × AreRightBelow g retired s moves errors r × IsWrongRetired g (retired r) (g.legal s r) (text_at moves r) (text_at errors r)
IsTurnFault g retired s moves errors turn (WrongState t) = ⊥
IsTurnFault g retired s moves errors turn WrongGoals = ⊥
IsTurnFault g retired s moves errors turn WrongEnd = ¬ (GoesOn g retired s)
IsTurnFault g retired s moves errors turn Memory = Unit {0}

abbrev pub IsJointAnswer : {S M : Type 0} → Rules S M → (ℕ → Bool) → S → (moves errors : List (List ℕ)) → ℕ → Result (List M) VerifyFault → Type 0
IsJointAnswer g retired s moves errors turn (Ok joint) = IsRightJoint g retired s moves errors joint
IsJointAnswer g retired s moves errors turn (Err f) = IsTurnFault g retired s moves errors turn f

-- the state after a right turn, or the error of the turn
abbrev pub IsTurnAnswer : {S M : Type 0} → Rules S M → (ℕ → Bool) → S → (moves errors : List (List ℕ)) → ℕ → Result S VerifyFault → Type 0
IsTurnAnswer {S} {M} g retired s moves errors turn (Ok t) = (joint : List M) × IsRightJoint g retired s moves errors joint × (t ≡ g.next s joint)
IsTurnAnswer g retired s moves errors turn (Err f) = IsTurnFault g retired s moves errors turn f

-- this number of retired roles is the number of all roles if and only if these turns retire all roles
abbrev pub AreRetired : {S M : Type 0} → Rules S M → RecordParts → List (Turn M) → ℕ → Type 0
AreRetired g p turns retired = every_role g.roles (retired_by p.strikes turns) ≡ (retired == g.roles)

-- the last state of a record and the number of retired roles in it, or the first error of its turns and states
abbrev pub IsReplayAnswer : {S M : Type 0} → Rules S M → RecordParts → Result (S × ℕ) VerifyFault → Type 0
IsReplayAnswer g p (Ok (s, retired)) = (played : IsReplayed g p s) × AreRetired g p played.leads.turns retired × g.IsState s
IsReplayAnswer g p (Err f) = IsFirstFault g p f

-- the stage, given whether an abort was requested, whether all START marks are present, and the result of the settling rule
abbrev pub stage_by : Bool → Bool → Stage → Stage
stage_by asked started settled = if asked then Aborting Asked else (if started then settled else Starting)

abbrev pub has_started : ℕ → RecordParts → Bool
has_started roles p = every_role roles (is_there p.start_marks)

abbrev pub has_ended : ℕ → RecordParts → Bool
has_ended roles p = every_role roles (is_there p.end_marks)

-- the phase, the cause and the marks are those of a match, given the settlement of its last state
pub record AgreesWith (roles : ℕ) (p : RecordParts) (settled : Stage) : Type 0 where
  pub phase_is : phase_in (stage_by (is_asked p.cause) (has_started roles p) settled) (has_ended roles p) ≡ p.phase
  pub cause_is : cause_in (stage_by (is_asked p.cause) (has_started roles p) settled) ≡ p.cause
  pub turns_after_start : has_started roles p ≡ false → length p.moves ≡ 0
  pub ends_at_end : is_live (stage_by (is_asked p.cause) (has_started roles p) settled) ≡ true → p.end_marks ≡ blank roles
  pub asked_when_live : is_asked p.cause ≡ true → is_live (stage_by false (has_started roles p) settled) ≡ true

-- whether the record's end is right, for all turns that lead to its last state and retire this number of roles
abbrev pub IsEndAnswer : {S M : Type 0} → Rules S M → RecordParts → S → ℕ → Bool → Type 0
IsEndAnswer {S} {M} g p s retired right = (turns : List (Turn M)) → length turns ≡ length p.moves → s ≡ state_after g turns → AreRetired g p turns retired → IsTrue right ↔ IsRightEnd g p turns
