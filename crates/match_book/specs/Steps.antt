-- How an answer and an abort change a match.
use Rattle.std.specs.Prelude.{◌≡◌, ◌≢◌, ◌⊎◌, ◌<◌, ℕ, nat_lt, ◌==◌, true, false, if◌then◌else◌, List, [], ◌∷◌, ◌++◌, map, Option, Some, None, is_none, slice_set, Result, Ok, Err}
use Rattle.game_core.specs.Play.{Rules}
use Rattle.match_book.specs.Roles.{every_role, of_each_role, at_role, is_there, blank, present}
use Rattle.match_book.specs.Marks.{mark_of}
use Rattle.match_book.specs.Judgement.{judgement, substitute}
use Rattle.match_book.specs.MatchValue.{MatchValue, state_after}
use Rattle.match_book.specs.Phase.{stage, still_answers, answered_in, has_answered, is_over, is_live, round}
use Rattle.desk_calls.specs.declared.setup.Setup.{Setup}
use Rattle.match_book.specs.declared.judgement.Judgement.{Judgement}
use Rattle.match_book.specs.declared.judgement.Substitution.TheVariants.{Retired}
use Rattle.match_book.specs.declared.turn.Turn.{Turn}
use Rattle.desk_calls.specs.declared.answer.Answer.{Answer}
use Rattle.match_book.specs.declared.answer.Mark.{Mark}
use Rattle.match_book.specs.declared.answer.AnswerRefusal.{AnswerRefusal}
use Rattle.match_book.specs.declared.answer.AnswerRefusal.TheVariants.{NoRole, Over, Stale, Twice}
use Rattle.match_book.specs.declared.answer.AnswerFault.{AnswerFault}
use Rattle.match_book.specs.declared.answer.AnswerFault.TheVariants.{NoRole as FaultNoRole, Over as FaultOver, Stale as FaultStale, Twice as FaultTwice, Memory}
use Rattle.match_book.specs.declared.phase.Stage.{Stage}
use Rattle.match_book.specs.declared.phase.Stage.TheVariants.{Starting, Playing, Stopping, Aborting}

-- a match without any answer
abbrev pub new_match : {S M : Type 0} → Rules S M → Setup → MatchValue M
new_match g setup = record { setup = setup; start_marks = blank g.roles; turns = []; open_answers = blank g.roles; abort_asked = false; end_marks = blank g.roles }

-- why the match refuses an answer of the role r for the round n, or None if the match takes the answer
abbrev pub refusal : {S M : Type 0} → Rules S M → MatchValue M → ℕ → ℕ → Option AnswerRefusal
refusal g m r n = if nat_lt r g.roles then (if is_over g m then Some Over else (if n == round g m then (if has_answered g m r then Some Twice else None) else Some (Stale (round g m)))) else Some NoRole

-- the turn made of these judgements, one for each role
abbrev pub turn_of : {M : Type 0} → List (Option (Judgement M)) → Turn M
turn_of parts = record { moves = map (λ j. j.taken) (present parts); errors = map (λ j. j.error) (present parts) }

-- the role's part of the turn: the role's open answer, or its first legal move if the role is retired
abbrev pub part : {S M : Type 0} → Rules S M → MatchValue M → ℕ → Option (Judgement M)
part g m r = if still_answers m r then at_role m.open_answers r else substitute (g.legal (state_after g m.turns) r) Retired

abbrev pub parts : {S M : Type 0} → Rules S M → MatchValue M → List (Option (Judgement M))
parts g m = of_each_role g.roles (part g m)

-- once all roles that are not retired have answered, their parts make a turn
abbrev pub recorded : {S M : Type 0} → Rules S M → MatchValue M → MatchValue M
recorded g m = if every_role g.roles (answered_in Playing m) then record m { turns = m.turns ++ turn_of (parts g m) ∷ []; open_answers = blank g.roles } else m

abbrev pub with_start_mark : {M : Type 0} → MatchValue M → ℕ → Mark → MatchValue M
with_start_mark m r mark = record m { start_marks = slice_set m.start_marks r (Some mark) }

abbrev pub with_end_mark : {M : Type 0} → MatchValue M → ℕ → Mark → MatchValue M
with_end_mark m r mark = record m { end_marks = slice_set m.end_marks r (Some mark) }

abbrev pub with_open_answer : {S M : Type 0} → Rules S M → MatchValue M → ℕ → Option (Judgement M) → MatchValue M
with_open_answer g m r judged = recorded g (record m { open_answers = slice_set m.open_answers r judged })

abbrev pub with_answer_in : {S M : Type 0} → Stage → Rules S M → MatchValue M → ℕ → Answer → MatchValue M
with_answer_in Starting g m r a = with_start_mark m r (mark_of a)
with_answer_in Playing g m r a = with_open_answer g m r (judgement g (state_after g m.turns) r a)
with_answer_in Stopping g m r a = with_end_mark m r (mark_of a)
with_answer_in (Aborting c) g m r a = with_end_mark m r (mark_of a)

-- the match after an answer that it takes
abbrev pub with_answer : {S M : Type 0} → Rules S M → MatchValue M → ℕ → Answer → MatchValue M
with_answer g m r a = with_answer_in (stage g m) g m r a

-- the match after an answer of the role r for the round n; a refused answer changes nothing
abbrev pub after_answer : {S M : Type 0} → Rules S M → MatchValue M → ℕ → ℕ → Answer → MatchValue M
after_answer g m r n a = if is_none (refusal g m r n) then with_answer g m r a else m

-- the match after a request to abort it, which drops the open answers
abbrev pub with_abort : {S M : Type 0} → Rules S M → MatchValue M → MatchValue M
with_abort g m = record m { abort_asked = true; open_answers = blank g.roles }

-- the match after an abort; unchanged if the match is stopping, aborting or over
abbrev pub after_abort : {S M : Type 0} → Rules S M → MatchValue M → MatchValue M
after_abort g m = if is_live (stage g m) then with_abort g m else m

-- Only the START mark of the role r is missing.
abbrev pub IsLastToStart : {S M : Type 0} → Rules S M → MatchValue M → ℕ → Type 0
IsLastToStart g m r = (stage g m ≡ Starting) × ((k : ℕ) → k < g.roles → k ≢ r → is_there m.start_marks k ≡ true)

-- Taking an answer of the role r may need memory: in play, or if the answer gives the last START mark.
abbrev pub MayWantMemory : {S M : Type 0} → Rules S M → MatchValue M → ℕ → Type 0
MayWantMemory g m r = (stage g m ≡ Playing) ⊎ IsLastToStart g m r

abbrev pub fault_of : AnswerRefusal → AnswerFault
fault_of NoRole = FaultNoRole
fault_of Over = FaultOver
fault_of (Stale n) = FaultStale n
fault_of Twice = FaultTwice

-- An answer is taken unless the match refuses it. Only an answer that the match does not refuse can run out of memory.
abbrev pub IsTakenUnless : Option AnswerRefusal → Result (Unit {0}) AnswerFault → Type 0
IsTakenUnless o (Ok u) = o ≡ None
IsTakenUnless o (Err FaultNoRole) = o ≡ Some NoRole
IsTakenUnless o (Err FaultOver) = o ≡ Some Over
IsTakenUnless o (Err (FaultStale n)) = o ≡ Some (Stale n)
IsTakenUnless o (Err FaultTwice) = o ≡ Some Twice
IsTakenUnless o (Err Memory) = o ≡ None
