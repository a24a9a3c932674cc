-- A match as a plain value.
use Rattle.std.specs.Prelude.{ℕ, Bool, List, Option, option_and_then, slice_get, length, not, ◌==◌, map, sum_by, count_by}
use Rattle.game_core.specs.Play.{Rules, play}
use Rattle.desk_calls.specs.declared.setup.Setup.{Setup}
use Rattle.match_book.specs.declared.answer.Mark.{Mark}
use Rattle.match_book.specs.declared.judgement.Judgement.{Judgement}
use Rattle.match_book.specs.declared.turn.Turn.{Turn}

-- The setup, the answers, and whether an abort was requested. The state and the phase follow from these. The open answers are those of the
-- turn that is not yet recorded. Marks and open answers have one place for each role.
pub record MatchValue (M : Type 0) : Type 0 where
  pub setup : Setup
  pub start_marks : List (Option Mark)
  pub turns : List (Turn M)
  pub open_answers : List (Option (Judgement M))
  pub abort_asked : Bool
  pub end_marks : List (Option Mark)

pub record GameMatch (G M : Type 0) : Type 0 where
  pub game : G
  pub value : MatchValue M

abbrev pub joint_moves : {M : Type 0} → List (Turn M) → List (List M)
joint_moves turns = map (λ t. t.moves) turns

abbrev pub state_after : {S M : Type 0} → Rules S M → List (Turn M) → S
state_after g turns = play g (joint_moves turns)

-- a move is replaced if its error is not empty
abbrev pub is_error : List ℕ → Bool
is_error e = not (length e == 0)

-- the number of recorded moves that were replaced
abbrev pub substitutions : {M : Type 0} → List (Turn M) → ℕ
substitutions turns = sum_by (λ t. count_by is_error t.errors) turns

abbrev pub move_at : {M : Type 0} → List (Turn M) → ℕ → ℕ → Option M
move_at turns turn role = option_and_then (λ t. slice_get t.moves role) (slice_get turns turn)

-- the error of the role's move in a turn
abbrev pub error_at : {M : Type 0} → List (Turn M) → ℕ → ℕ → Option (List ℕ)
error_at turns turn role = option_and_then (λ t. slice_get t.errors role) (slice_get turns turn)
