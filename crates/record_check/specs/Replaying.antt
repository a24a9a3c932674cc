-- The replay of a record, turn by turn, up to the first point where it is not the record of a lawful match.
use Rattle.std.specs.Prelude.{◌≡◌, ◌≢◌, ◌⊎◌, ℕ, ◌<◌, Bool, true, false, List, [], length, take, map, Option, Some, None, Contains, slice_get, slice_index_or}
use Rattle.game_core.specs.Play.{Rules}
use Rattle.match_book.specs.Roles.{every_role, lowest_role, is_there, blank}
use Rattle.match_book.specs.Judgement.{error_text, retired_text, NamesNone, IsPart}
use Rattle.match_book.specs.MatchValue.{MatchValue, state_after}
use Rattle.match_book.specs.Phase.{stage, phase, cause, is_live, has_no_move}
use Rattle.match_book.specs.Lawful.{AreLawful}
use Rattle.match_book.specs.Retirement.{retired_by}
use Rattle.match_book.specs.declared.judgement.Substitution.TheVariants.{Illegal as NotLegal}
use Rattle.match_book.specs.declared.phase.Cause.{Cause}
use Rattle.match_book.specs.declared.phase.Cause.TheVariants.{Asked, NoLegal, NoGoal, TooLong, AllRetired}
use Rattle.desk_calls.specs.declared.phase.Phase.{Phase}
use Rattle.desk_calls.specs.declared.phase.Phase.TheVariants.{Starting, Playing, Stopping, Finished, Aborting, Aborted}
use Rattle.match_book.specs.declared.turn.Turn.{Turn}
use Rattle.record_reading.specs.declared.record_parts.RecordParts.{RecordParts}
use Rattle.record_reading.specs.declared.verify_fault.VerifyFault.{VerifyFault}
use Rattle.record_reading.specs.declared.verify_fault.VerifyFault.TheVariants.{NotJson, BadShape, Illegal, NotFirst, WrongRetired, WrongState, WrongGoals, WrongEnd, Memory}

-- the state is not terminal, each role has a legal move, and some role is not retired
abbrev pub GoesOn : {S M : Type 0} → Rules S M → (ℕ → Bool) → S → Type 0
GoesOn g retired s = (g.terminal s ≡ false) × (lowest_role g.roles (has_no_move g s) ≡ None) × (every_role g.roles retired ≡ false)

-- one of these moves has this text, and the move can have the error, given whether the role is retired
abbrev pub IsRightMove : {S M : Type 0} → Rules S M → Bool → List M → List ℕ → List ℕ → Type 0
IsRightMove {S} {M} g retired moves text error = (m : M) × (g.move_text m ≡ text) × IsPart g retired moves m error

-- the error says that the answer was the text of one of these moves
abbrev pub DeniesOne : {S M : Type 0} → Rules S M → List M → List ℕ → Type 0
DeniesOne {S} {M} g moves error = (m : M) × Contains moves m × (error ≡ error_text (NotLegal (g.move_text m)))

-- One of these moves has this text, and the move cannot have the error: the error is not empty and the move is not the first, or the error
-- says that the answer was a legal move.
abbrev pub IsWrongError : {S M : Type 0} → Rules S M → List M → List ℕ → List ℕ → Type 0
IsWrongError {S} {M} g moves text error =
    (m : M) × Contains moves m × (g.move_text m ≡ text) × (((error ≢ []) × (slice_get moves 0 ≢ Some m)) ⊎ DeniesOne g moves error)

-- the role is retired and the error does not say so, or the error says so and the role is not retired
abbrev pub IsWrongFor : Bool → List ℕ → Type 0
IsWrongFor true error = error ≢ retired_text
IsWrongFor false error = error ≡ retired_text

-- One of these moves has this text, and the move can have the error, but not for this role: the role is retired and the error does not say
-- so, or the error says so and the role is not retired.
abbrev pub IsWrongRetired : {S M : Type 0} → Rules S M → Bool → List M → List ℕ → List ℕ → Type 0
IsWrongRetired {S} {M} g retired moves text error =
    (m : M) × Contains moves m × (g.move_text m ≡ text) × ((error ≡ []) ⊎ ((slice_get moves 0 ≡ Some m) × ¬ (DeniesOne g moves error))) × IsWrongFor retired error

abbrev pub turn_at : List (List (List ℕ)) → ℕ → List (List ℕ)
turn_at lists t = slice_index_or lists t []

abbrev pub text_at : List (List ℕ) → ℕ → List ℕ
text_at texts r = slice_index_or texts r []

-- Play continues in the state s, and the moves and errors of the roles below r are right, given which roles are retired.
pub record AreRightBelow {S M : Type 0} (g : Rules S M) (retired : ℕ → Bool) (s : S) (moves errors : List (List ℕ)) (r : ℕ) : Type 0 where
  pub goes_on : GoesOn g retired s
  pub within : r < g.roles
  pub right : (q : ℕ) → q < r → IsRightMove g (retired q) (g.legal s q) (text_at moves q) (text_at errors q)

-- the record has this state after t turns
abbrev pub ShowsState : {S M : Type 0} → Rules S M → RecordParts → ℕ → S → Type 0
ShowsState g p t s = slice_get p.states t ≡ Some (g.state_text s)

-- t lawful turns lead to the state s. The record has their moves and errors, and the state before each of them.
pub record LeadsTo {S M : Type 0} (g : Rules S M) (p : RecordParts) (t : ℕ) (s : S) : Type 0 where
  pub turns : List (Turn M)
  pub many : length turns ≡ t
  pub lawful : AreLawful g p.strikes turns
  pub state : s ≡ state_after g turns
  pub moves : map (λ u. map g.move_text u.moves) turns ≡ take t p.moves
  pub errors : map (λ u. u.errors) turns ≡ take t p.errors
  pub states : (k : ℕ) → k < t → ShowsState g p k (state_after g (take k turns))

-- the record has t turns that lead to the state s, this state, and one more turn
pub record ComesTo {S M : Type 0} (g : Rules S M) (p : RecordParts) (t : ℕ) (s : S) : Type 0 where
  pub leads : LeadsTo g p t s
  pub shown : ShowsState g p t s
  pub follows : t < length p.moves

-- the roles that are retired by the record's turns before this state
abbrev pub retired_in : {S M : Type 0} {g : Rules S M} {t : ℕ} {s : S} → (p : RecordParts) → ComesTo g p t s → ℕ → Bool
retired_in p comes = retired_by p.strikes comes.leads.turns

-- these are the game's goals in the state s, one for each role
abbrev pub AreGoalsOf : {S M : Type 0} → Rules S M → S → List ℕ → Type 0
AreGoalsOf g s goals = (length goals ≡ g.roles) × ((r : ℕ) → r < g.roles → g.goal s r ≡ slice_get goals r)

-- the goals of the last state, if the match has stopped, or else none
abbrev pub AreGoalsIn : {S M : Type 0} → Rules S M → Phase → S → List ℕ → Type 0
AreGoalsIn g Starting s goals = goals ≡ []
AreGoalsIn g Playing s goals = goals ≡ []
AreGoalsIn g Stopping s goals = AreGoalsOf g s goals
AreGoalsIn g Finished s goals = AreGoalsOf g s goals
AreGoalsIn g Aborting s goals = goals ≡ []
AreGoalsIn g Aborted s goals = goals ≡ []

abbrev pub is_asked : Option Cause → Bool
is_asked None = false
is_asked (Some Asked) = true
is_asked (Some (NoLegal r)) = false
is_asked (Some (NoGoal r)) = false
is_asked (Some TooLong) = false
is_asked (Some AllRetired) = false

abbrev pub match_of : {S M : Type 0} → Rules S M → RecordParts → List (Turn M) → MatchValue M
match_of g p turns = record {
  setup = record { id = p.id; start = p.start; play = p.play; strikes = p.strikes; players = p.players };
  start_marks = p.start_marks;
  turns = turns;
  open_answers = blank g.roles;
  abort_asked = is_asked p.cause;
  end_marks = p.end_marks;
}

-- the phase, the cause and the marks of the record are those of a match with these turns
pub record IsRightEnd {S M : Type 0} (g : Rules S M) (p : RecordParts) (turns : List (Turn M)) : Type 0 where
  pub phase_is : phase g (match_of g p turns) ≡ p.phase
  pub cause_is : cause g (match_of g p turns) ≡ p.cause
  -- there is no turn until all START marks are present, and no end mark before the match stops or aborts
  pub turns_after_start : every_role g.roles (is_there p.start_marks) ≡ false → turns ≡ []
  pub ends_at_end : is_live (stage g (match_of g p turns)) ≡ true → p.end_marks ≡ blank g.roles
  -- an abort was requested only while the match was starting or playing
  pub asked_when_live : is_asked p.cause ≡ true → is_live (stage g (record (match_of g p turns) { abort_asked = false })) ≡ true

-- the turns and states of the record are those of a match
pub record IsReplayed {S M : Type 0} (g : Rules S M) (p : RecordParts) (s : S) : Type 0 where
  pub leads : LeadsTo g p (length p.moves) s
  pub shown : ShowsState g p (length p.moves) s

-- this is the first error of the record: everything before it is right
abbrev pub IsFirstFault : {S M : Type 0} → Rules S M → RecordParts → VerifyFault → Type 0
IsFirstFault g p NotJson = ⊥
IsFirstFault g p (BadShape key) = ⊥
IsFirstFault {S} g p (WrongState t) = (s : S) × LeadsTo g p t s × ¬ (ShowsState g p t s)
IsFirstFault {S} g p (Illegal t r) =
    (s : S) × (comes : ComesTo g p t s) × AreRightBelow g (retired_in p comes) s (turn_at p.moves t) (turn_at p.errors t) r
    × NamesNone g (g.legal s r) (text_at (turn_at p.moves t) r)
IsFirstFault {S} g p (NotFirst t r) =
    (s : S) × (comes : ComesTo g p t s) × AreRightBelow g (retired_in p comes) s (turn_at p.moves t) (turn_at p.errors t) r
    × IsWrongError g (g.legal s r) (text_at (turn_at p.moves t) r) (text_at (turn_at p.errors t) r)
IsFirstFault {S} g p (WrongRetired t r) =
    (s : S) × (comes : ComesTo g p t s) × AreRightBelow g (retired_in p comes) s (turn_at p.moves t) (turn_at p.errors t) r
    × IsWrongRetired g (retired_in p comes r) (g.legal s r) (text_at (turn_at p.moves t) r) (text_at (turn_at p.errors t) r)
IsFirstFault {S} g p WrongGoals = (s : S) × IsReplayed g p s × ¬ (AreGoalsIn g p.phase s p.goals)
IsFirstFault {S} g p WrongEnd =
    ((t : ℕ) × (s : S) × (comes : ComesTo g p t s) × ¬ (GoesOn g (retired_in p comes) s))
    ⊎ ((s : S) × (played : IsReplayed g p s) × AreGoalsIn g p.phase s p.goals × ¬ (IsRightEnd g p played.leads.turns))
IsFirstFault g p Memory = Unit {0}
