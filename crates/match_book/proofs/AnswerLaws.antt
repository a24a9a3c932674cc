-- How an answer and an abort change a lawful match.
use Rattle.std.proofs.Common.{◌≡◌, ◌≢◌, ℕ, zero, suc, ◌<◌, ◌≤◌, Bool, true, false, Option, Some, None, List, [], ◌∷◌, ◌++◌, length, take, slice_index_or, set, refl, arith, ap, sym, ◌∙◌, subst, inl, inr, add-one}
use Rattle.std.proofs.lemmas.List.{map-append, take_all, take_more}
use Rattle.std.proofs.lemmas.Bool.Decides.{nat_tests}
use Rattle.std.specs.Prelude.{is_none, nat_lt, ◌==◌, if◌then◌else◌, ◌↔◌}
use Rattle.game_core.specs.Play.{Rules, IsLawful, IsJoint, play_from, AreLegalFrom, AreLegal}
use Rattle.match_book.specs.Roles.{every_role, blank}
use Rattle.match_book.specs.Marks.{mark_of}
use Rattle.match_book.specs.AnswerReading.{answer_reading}
use Rattle.match_book.specs.Judgement.{judgement, substitute, error_text, move_named, taken_or_substituted, judged_reading}
use Rattle.match_book.specs.MatchValue.{MatchValue, state_after, joint_moves}
use Rattle.match_book.specs.Phase.{stage, is_over, still_answers, answered_in, has_answered, round, is_live}
use Rattle.match_book.specs.Lawful.{AreLawful, IsLawfulMatch}
use Rattle.match_book.specs.Due.{owed_in, last_move_texts}
use Rattle.match_book.specs.Steps.{refusal, turn_of, parts, with_answer_in, with_answer, with_open_answer, with_abort, after_answer}
use Rattle.match_book.specs.Laws.{NewMatchIsLawful, AnswersKeepLawful, AbortKeepsLawful, RecordedMovesAreLegal, NoErrorMeansNamed, IsPlayed, AnswersInPlay, AnswersOutOfPlay, TakenForTheRound, OwedAnswersAreTaken, ReadingsAreFolded}
use Rattle.desk_calls.specs.declared.answer.Answer.{Answer}
use Rattle.desk_calls.specs.declared.answer.Answer.TheVariants.{Text, Silent, Broken}
use Rattle.desk_calls.specs.declared.due.Owed.{Owed}
use Rattle.desk_calls.specs.declared.due.Due.TheVariants.{Owe, Hold, Over as IsOver}
use Rattle.match_book.specs.declared.answer.AnswerRefusal.{AnswerRefusal}
use Rattle.match_book.specs.declared.answer.AnswerRefusal.TheVariants.{NoRole, Over, Stale, Twice}
use Rattle.match_book.specs.declared.judgement.Judgement.{Judgement}
use Rattle.match_book.specs.declared.judgement.Substitution.{Substitution}
use Rattle.match_book.specs.declared.judgement.Substitution.TheVariants.{TimeOut, ConnectionError, Unreadable, Illegal, Retired}
use Rattle.match_book.specs.declared.turn.Turn.{Turn}
use Rattle.match_book.specs.declared.phase.Stage.{Stage}
use Rattle.match_book.specs.declared.phase.Stage.TheVariants.{Starting, Playing, Stopping, Aborting}
use Rattle.match_book.proofs.Judgements.{judgement-judged, substitute-is, first-contains, move_named-none, move_named-text}
use Rattle.match_book.proofs.TurnParts.{some_of}
use Rattle.match_book.proofs.Stages.{not_answered-parts}
use Rattle.match_book.proofs.LawfulMatches.{lawful-new_match, lawful-with_start_mark, lawful-with_end_mark, lawful-with_abort, answer-judged, lawful-open_answer, lawful-recorded, has_part}

pub new_match_is_lawful : {S M : Type 0} (g : Rules S M) → IsLawful g → NewMatchIsLawful g
new_match_is_lawful g laws setup players = lawful-new_match g laws setup players

pub abort_keeps_lawful : {S M : Type 0} (g : Rules S M) → IsLawful g → AbortKeepsLawful g
abort_keeps_lawful {S} {M} g laws m lawful = step (is_live (stage g m)) refl
  where
    step : (b : Bool) → is_live (stage g m) ≡ b → IsLawfulMatch g (if b then with_abort g m else m)
    step true live = lawful-with_abort g laws m lawful live
    step false ended = lawful

not_refused : (role roles n present : ℕ) (over answered : Bool) → (if nat_lt role roles then (if over then Some Over else (if n == present then (if answered then Some Twice else None) else Some (Stale present))) else Some NoRole) ≡ None
    → (role < roles) × (n ≡ present) × (over ≡ false) × (answered ≡ false)
not_refused role roles n present over answered e = step (nat_lt role roles) refl over (n == present) refl answered e
  where
    less : nat_lt role roles ≡ true → role < roles
    less is = grind (arith, nat_tests)

    same : (n == present) ≡ true → n ≡ present
    same is = grind (arith, nat_tests)

    step : (within : Bool) → nat_lt role roles ≡ within → (o here : Bool) → (n == present) ≡ here → (a : Bool) → (if within then (if o then Some Over else (if here then (if a then Some Twice else None) else Some (Stale present))) else Some NoRole) ≡ None
        → (role < roles) × (n ≡ present) × (o ≡ false) × (a ≡ false)
    step false is o here same' a e = absurd cc
    step true is true here same' a e = absurd cc
    step true is false false same' a e = absurd cc
    step true is false true same' true e = absurd cc
    step true is false true same' false e = (less is, same same', refl, refl)

pub taken : {S M : Type 0} (g : Rules S M) (m : MatchValue M) (role n : ℕ) → refusal g m role n ≡ None → (role < g.roles) × (n ≡ round g m) × (is_over g m ≡ false) × (has_answered g m role ≡ false)
taken g m role n e = not_refused role g.roles n (round g m) (is_over g m) (has_answered g m role) e

pub taken_for_the_round : {S M : Type 0} (g : Rules S M) → TakenForTheRound g
taken_for_the_round g m role n e = let parts = taken g m role n e in (parts.0, parts.1)

pub less_is : (a b : ℕ) → a < b → nat_lt a b ≡ true
less_is a b lt = grind (arith, nat_tests)

pub same_is : (a b : ℕ) → a ≡ b → (a == b) ≡ true
same_is a b same = grind (arith, nat_tests)

owed_as : (role roles n present : ℕ) (over answered : Bool) (message owed : Owed) → role < roles → (if over then IsOver else (if answered then Hold present else Owe present message)) ≡ Owe n owed
    → (if nat_lt role roles then (if over then Some Over else (if n == present then (if answered then Some Twice else None) else Some (Stale present))) else Some NoRole) ≡ None
owed_as role roles n present true answered message owed lt is = absurd cc
owed_as role roles n present false true message owed lt is = absurd cc
owed_as role roles n present false false message owed lt is = let same : n ≡ present = cc in rw (less_is role roles lt, same_is n present same) refl

pub owed_answers_are_taken : {S M : Type 0} (g : Rules S M) → OwedAnswersAreTaken g
owed_answers_are_taken g m role n owed lt is = owed_as role g.roles n (round g m) (is_over g m) (has_answered g m role) (owed_in (stage g m) (last_move_texts g m.turns)) owed lt is

still-answers : {S M : Type 0} (g : Rules S M) (m : MatchValue M) (role : ℕ) → has_answered g m role ≡ false → stage g m ≡ Playing → still_answers m role ≡ true
still-answers g m role free playing = (not_answered-parts m role (subst (λ (x : Stage). answered_in x m role ≡ false) playing free)).0

module _ {S M : Type 0} (g : Rules S M) (laws : IsLawful g) (folded : ReadingsAreFolded) (m : MatchValue M) (lawful : IsLawfulMatch g m) (role : ℕ) (lt : role < g.roles) (answer : Answer) where
  module _ (playing : stage g m ≡ Playing) (answers : still_answers m role ≡ true) where
    played_as : (j : Judgement M) → judgement g (state_after g m.turns) role answer ≡ Some j → (all : Bool) → every_role g.roles (answered_in Playing (record m { open_answers = set m.open_answers role (Some j) })) ≡ all → (n : MatchValue M)
        → n ≡ (if all then record m { turns = m.turns ++ turn_of (parts g (record m { open_answers = set m.open_answers role (Some j) })) ∷ []; open_answers = blank g.roles } else record m { open_answers = set m.open_answers role (Some j) })
        → IsPlayed g m n role answer × IsLawfulMatch g n
    played_as j is true all n e =
        let judged = judgement-judged g folded (state_after g m.turns) role answer j is in (
          record { judged = j; is_judgement = is; opened_or_recorded = inr (e, has_part g laws m lawful playing role lt j answers judged all) },
          subst (λ (x : MatchValue M). IsLawfulMatch g x) (sym e) (lawful-recorded g laws m lawful playing role lt j answers judged all),
        )
    played_as j is false missing n e =
        let judged = judgement-judged g folded (state_after g m.turns) role answer j is in
        (record { judged = j; is_judgement = is; opened_or_recorded = inl e }, subst (λ (x : MatchValue M). IsLawfulMatch g x) (sym e) (lawful-open_answer g laws m lawful playing role lt j answers judged missing))

    played : (n : MatchValue M) → n ≡ with_open_answer g m role (judgement g (state_after g m.turns) role answer) → IsPlayed g m n role answer × IsLawfulMatch g n
    played n e =
        let found = some_of (judgement g (state_after g m.turns) role answer) (answer-judged g laws m lawful playing role lt answer) in
        played_as found.0 found.1 (every_role g.roles (answered_in Playing (record m { open_answers = set m.open_answers role (Some found.0) }))) refl n (e ∙ ap (λ o. with_open_answer g m role o) found.1)

  with_answer_in-lawful : has_answered g m role ≡ false → (at : Stage) → stage g m ≡ at → IsLawfulMatch g (with_answer_in at g m role answer)
  with_answer_in-lawful free Starting e = lawful-with_start_mark g laws m lawful role (mark_of answer) e
  with_answer_in-lawful free Playing e = (played e (still-answers g m role free e) (with_open_answer g m role (judgement g (state_after g m.turns) role answer)) refl).1
  with_answer_in-lawful free Stopping e = lawful-with_end_mark g laws m lawful role (mark_of answer) (rw e refl)
  with_answer_in-lawful free (Aborting c) e = lawful-with_end_mark g laws m lawful role (mark_of answer) (rw e refl)

  with_answer-lawful : has_answered g m role ≡ false → IsLawfulMatch g (with_answer g m role answer)
  with_answer-lawful free = with_answer_in-lawful free (stage g m) refl

pub answers_keep_lawful : {S M : Type 0} (g : Rules S M) → IsLawful g → ReadingsAreFolded → AnswersKeepLawful g
answers_keep_lawful {S} {M} g laws folded m role n answer lawful = step (refusal g m role n) refl
  where
    step : (o : Option AnswerRefusal) → refusal g m role n ≡ o → IsLawfulMatch g (if is_none o then with_answer g m role answer else m)
    step None e = let parts = taken g m role n e in with_answer-lawful g laws folded m lawful role parts.0 answer parts.3
    step (Some f) e = lawful

taken_or_same : {M : Type 0} (o : Option AnswerRefusal) (m n : MatchValue M) → o ≡ None → (if is_none o then n else m) ≡ n
taken_or_same None m n e = refl
taken_or_same (Some f) m n e = absurd cc

pub answers_in_play : {S M : Type 0} (g : Rules S M) → IsLawful g → ReadingsAreFolded → AnswersInPlay g
answers_in_play {S} {M} g laws folded m role n answer lawful playing none =
    let now : after_answer g m role n answer ≡ with_open_answer g m role (judgement g (state_after g m.turns) role answer) =
    taken_or_same (refusal g m role n) m (with_answer g m role answer) none ∙ ap (λ (x : Stage). with_answer_in x g m role answer) playing
    in
    let parts = taken g m role n none in
    (played g laws folded m lawful role parts.0 answer playing (still-answers g m role parts.3 playing) (after_answer g m role n answer) now).0

pub answers_out_of_play : {S M : Type 0} (g : Rules S M) → AnswersOutOfPlay g
answers_out_of_play {S} {M} g m role n answer out = step (refusal g m role n) (stage g m) out
  where
    step : (o : Option AnswerRefusal) (at : Stage) → at ≢ Playing
        → ((if is_none o then with_answer_in at g m role answer else m).turns ≡ m.turns) × ((if is_none o then with_answer_in at g m role answer else m).open_answers ≡ m.open_answers)
    step (Some f) at out = (refl, refl)
    step None Starting out = (refl, refl)
    step None Playing out = absurd (out refl)
    step None Stopping out = (refl, refl)
    step None (Aborting c) out = (refl, refl)

AreLegalFrom-push : {S M : Type 0} (g : Rules S M) (s : S) (turns : List (List M)) (joint : List M) → AreLegalFrom g s turns → g.terminal (play_from g s turns) ≡ false → IsJoint g (play_from g s turns) joint → AreLegalFrom g s (turns ++ joint ∷ [])
AreLegalFrom-push g s [] joint legal goes_on is = (goes_on, is, tt)
AreLegalFrom-push g s (x ∷ xs) joint legal goes_on is = (legal.0, legal.1, AreLegalFrom-push g (g.next s x) xs joint legal.2 goes_on is)

prefix_is_legal : {S M : Type 0} (g : Rules S M) (strikes : ℕ) (turns : List (Turn M)) → AreLawful g strikes turns → (k : ℕ) (d : Turn M) → k ≤ length turns → AreLegal g (joint_moves (take k turns))
prefix_is_legal g strikes turns lawful zero d le = tt
prefix_is_legal {S} {M} g strikes turns lawful (suc k) d le =
    let t = slice_index_or turns k d in
    let turn = lawful k d (omega arith) in
    let more : take (suc k) turns ≡ take k turns ++ t ∷ [] = subst (λ (n : ℕ). take n turns ≡ take k turns ++ t ∷ []) (add-one k) (take_more turns k d (omega arith)) in
    let moves : joint_moves (take (suc k) turns) ≡ joint_moves (take k turns) ++ t.moves ∷ [] = ap joint_moves more ∙ map-append (λ u. u.moves) (take k turns) (t ∷ []) in
    subst (λ (x : List (List M)). AreLegal g x) (sym moves) (AreLegalFrom-push g g.initial (joint_moves (take k turns)) t.moves (prefix_is_legal g strikes turns lawful k d (omega arith)) turn.goes_on turn.joint)

AreLawful-legal : {S M : Type 0} (g : Rules S M) (strikes : ℕ) (turns : List (Turn M)) → AreLawful g strikes turns → AreLegal g (joint_moves turns)
AreLawful-legal g strikes [] lawful = tt
AreLawful-legal {S} {M} g strikes (t ∷ ts) lawful =
    subst (λ (x : List (Turn M)). AreLegal g (joint_moves x)) (take_all (length (t ∷ ts)) (t ∷ ts) (omega arith)) (prefix_is_legal g strikes (t ∷ ts) lawful (length (t ∷ ts)) t (omega arith))

pub recorded_moves_are_legal : {S M : Type 0} (g : Rules S M) → RecordedMovesAreLegal g
recorded_moves_are_legal g m lawful = AreLawful-legal g m.setup.strikes m.turns lawful.turns

error_text-some : (why : Substitution) → error_text why ≢ []
error_text-some TimeOut e = absurd cc
error_text-some ConnectionError e = absurd cc
error_text-some Unreadable e = absurd cc
error_text-some (Illegal x) e = absurd cc
error_text-some Retired e = absurd cc

substituted : {S M : Type 0} (g : Rules S M) (moves : List M) (why : Substitution) (j : Judgement M) (N : Type 0) → substitute moves why ≡ Some j → (N → ⊥) → (j.error ≡ []) ↔ N
substituted g moves why j N is not_named = (λ e. absurd (error_text-some why (sym (substitute-is moves why j is).1 ∙ e)), λ named. absurd (not_named named))

named_or_not : {S M : Type 0} (g : Rules S M) (moves : List M) (t x : List ℕ) (n : Option M) (j : Judgement M) → answer_reading t ≡ Some x → move_named g moves x ≡ n → taken_or_substituted moves x n ≡ Some j
    → (j.error ≡ []) ↔ (answer_reading t ≡ Some (g.move_text j.taken))
named_or_not {S} {M} g moves t x None j read none is =
    substituted g moves (Illegal x) j (answer_reading t ≡ Some (g.move_text j.taken)) is
    (λ named.
    let first = first-contains moves j.taken (substitute-is moves (Illegal x) j is).0 in
    let both : Some x ≡ Some (g.move_text j.taken) = sym read ∙ named in
    let same : g.move_text j.taken ≡ x = cc in
    move_named-none g moves x none first.0 j.taken first.1 (ap g.move_text first.2 ∙ same))
named_or_not {S} {M} g moves t x (Some m) j read found is =
    let w : ◌≡◌ {A = Judgement M} (record { taken = m; error = [] }) j = cc in
    let text : g.move_text m ≡ x = move_named-text g moves x m found in
    (λ _. read ∙ ap Some (sym text ∙ ap (λ (y : Judgement M). g.move_text y.taken) w), λ _. sym (ap (λ (y : Judgement M). y.error) w))

read_or_not : {S M : Type 0} (g : Rules S M) (moves : List M) (t : List ℕ) (o : Option (List ℕ)) (j : Judgement M) → answer_reading t ≡ o → judged_reading g moves o ≡ Some j
    → (j.error ≡ []) ↔ (answer_reading t ≡ Some (g.move_text j.taken))
read_or_not g moves t None j read is =
    substituted g moves Unreadable j (answer_reading t ≡ Some (g.move_text j.taken)) is (λ named. let w : None ≡ Some (g.move_text j.taken) = sym read ∙ named in absurd cc)
read_or_not g moves t (Some x) j read is = named_or_not g moves t x (move_named g moves x) j read refl is

pub no_error_means_named : {S M : Type 0} (g : Rules S M) → NoErrorMeansNamed g
unfolding judgement
no_error_means_named g s role (Text t) j is = read_or_not g (g.legal s role) t (answer_reading t) j refl is
no_error_means_named g s role Silent j is = substituted g (g.legal s role) TimeOut j ⊥ is (λ named. named)
no_error_means_named g s role Broken j is = substituted g (g.legal s role) ConnectionError j ⊥ is (λ named. named)
