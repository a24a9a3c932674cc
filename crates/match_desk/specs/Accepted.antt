-- The answers that a history took, and the moves that followed from them.
use Rattle.std.specs.Prelude.{◌≡◌, ◌↔◌, ℕ, ◌+◌, ◌<◌, ◌==◌, ◌&&◌, Bool, true, false, if◌then◌else◌, List, [], ◌∷◌, ◌++◌, length, take, Option, Some, None, option_to_list, slice_get, bytes_eq, All}
use Rattle.game_core.specs.Play.{Rules}
use Rattle.match_book.specs.Judgement.{judgement}
use Rattle.match_book.specs.MatchValue.{state_after, move_at, error_at}
use Rattle.match_book.specs.Retirement.{retired_by}
use Rattle.match_book.specs.Laws.{Names}
use Rattle.match_book.specs.declared.judgement.Judgement.{Judgement}
use Rattle.match_book.specs.declared.turn.Turn.{Turn}
use Rattle.desk_calls.specs.declared.answer.Answer.{Answer}
use Rattle.desk_calls.specs.declared.answer.Answer.TheVariants.{Text}
use Rattle.call_history.specs.declared.journal.Entry.{Entry}
use Rattle.match_desk.specs.ManagerValue.{DeskMatch, ManagerValue}
use Rattle.match_desk.specs.Steps.{missed}
use Rattle.desk_calls.specs.declared.call.Call.{Call}
use Rattle.desk_calls.specs.declared.call.Call.TheVariants.{Open, Next, Submit, Miss, Query, Abort}
use Rattle.desk_calls.specs.declared.call.Reply.{Reply}
use Rattle.desk_calls.specs.declared.call.Reply.TheVariants.{Opened, Due, Taken, Status, Aborting, Refused}

-- the answer a, if the match, the role and the round are the ones in question
abbrev pub answer_if : Bool → Answer → Option Answer
answer_if wanted a = if wanted then Some a else None

-- the answer that a call gives for this role and round of the match with this id, if any
abbrev pub answer_of : List ℕ → ℕ → ℕ → Call → Option Answer
answer_of id role round (Open i game start play strikes players) = None
answer_of id role round (Next i r) = None
answer_of id role round (Submit i r n text) = answer_if (bytes_eq i id && r == role && n == round) (Text text)
answer_of id role round (Miss i r n broken) = answer_if (bytes_eq i id && r == role && n == round) (missed broken)
answer_of id role round (Query i) = None
answer_of id role round (Abort i) = None

abbrev pub is_taken : Reply → Bool
is_taken Opened = false
is_taken (Due d) = false
is_taken Taken = true
is_taken (Status s) = false
is_taken Aborting = false
is_taken (Refused reason) = false

abbrev pub taken_answer : List ℕ → ℕ → ℕ → Entry Call Reply → List Answer
taken_answer id role round e = if is_taken e.reply then option_to_list (answer_of id role round e.call) else []

-- the answers that the history took for this role and round of the match with this id, in order
abbrev pub taken_answers : List ℕ → ℕ → ℕ → List (Entry Call Reply) → List Answer
taken_answers id role round [] = []
taken_answers id role round (e ∷ es) = taken_answer id role round e ++ taken_answers id role round es

-- There is exactly one answer, and the role's part of the turn is the judgement of this answer in the state before the turn. The error is
-- empty if and only if the answer names the move.
pub record IsAnswered {S M : Type 0} (g : Rules S M) (turns : List (Turn M)) (turn role : ℕ) (answers : List Answer) : Type 0 where
  pub answer : Answer
  pub one : answers ≡ answer ∷ []
  pub judged : Judgement M
  pub is_judgement : judgement g (state_after g (take turn turns)) role answer ≡ Some judged
  pub move_is : move_at turns turn role ≡ Some judged.taken
  pub error_is : error_at turns turn role ≡ Some judged.error
  pub no_error : (judged.error ≡ []) ↔ Names g answer judged.taken

-- the answers taken from a role for a recorded turn: none if the earlier turns retire the role, or else the one answer that is judged
abbrev pub AreTaken : {S M : Type 0} → Bool → Rules S M → List (Turn M) → ℕ → ℕ → List Answer → Type 0
AreTaken true g turns turn role answers = answers ≡ []
AreTaken false g turns turn role answers = IsAnswered g turns turn role answers

-- For each recorded turn of the match and each role that the earlier turns do not retire, the history took exactly one answer for the turn's
-- round, and the turn has the judgement of this answer. The history took no answer from a role that the earlier turns retire.
pub record IsAccounted {G S M : Type 0} (rules : G → Rules S M) (games : List G) (history : List (Entry Call Reply)) (m : DeskMatch M) : Type 0 where
  pub game : G
  pub is_game : slice_get games m.game ≡ Some game
  pub answered : (turn role : ℕ) → turn < length m.value.turns → role < (rules game).roles
      → AreTaken (retired_by m.value.setup.strikes (take turn m.value.turns) role) (rules game) m.value.turns turn role (taken_answers m.value.setup.id role (turn + 1) history)

-- each match is accounted for
abbrev pub AreAccounted : {G S M : Type 0} → (G → Rules S M) → ManagerValue G M → List (Entry Call Reply) → Type 0
AreAccounted rules d history = All (IsAccounted rules d.games history) d.matches
