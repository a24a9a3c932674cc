-- The messages that a role has answered.
use Rattle.std.proofs.Common.{◌≡◌, ◌≢◌, ℕ, zero, suc, ◌<◌, ◌≤◌, Bool, true, false, Option, Some, None, List, [], ◌∷◌, ◌++◌, length, take, set, refl, arith, ap, sym, ◌∙◌, subst, inl, inr, add-one, append-nil, length-append}
use Rattle.std.proofs.lemmas.List.{take-append-le}
use Rattle.std.proofs.Math.Seq.{take-append_seam}
use Rattle.std.specs.Prelude.{is_none, is_some, nat_lt, not, ◌==◌, if◌then◌else◌}
use Rattle.game_core.specs.Play.{Rules, IsLawful}
use Rattle.desk_calls.specs.Phases.{is_last}
use Rattle.desk_calls.specs.declared.answer.Answer.{Answer}
use Rattle.desk_calls.specs.declared.due.Owed.{Owed}
use Rattle.desk_calls.specs.declared.due.Owed.TheVariants.{Start, Play}
use Rattle.desk_calls.specs.declared.due.Due.TheVariants.{Owe, Hold, Over as IsOver}
use Rattle.match_book.specs.Roles.{every_role, at_role, is_there, blank}
use Rattle.match_book.specs.Marks.{mark_of}
use Rattle.match_book.specs.Judgement.{substitute}
use Rattle.match_book.specs.MatchValue.{MatchValue, state_after}
use Rattle.match_book.specs.Phase.{stage, is_playing, still_answers, answered_in, has_answered, phase_in, is_over, is_live, round, round_in}
use Rattle.match_book.specs.Retirement.{retired_by, is_retired}
use Rattle.match_book.specs.Lawful.{IsLawfulMatch}
use Rattle.match_book.specs.Due.{due, owed_in, last_move_texts}
use Rattle.match_book.specs.RoleMessages.{play_after, plays_before, role_plays, messages_in, answered_messages}
use Rattle.match_book.specs.Steps.{new_match, refusal, with_start_mark, with_end_mark, with_answer_in, with_answer, after_answer}
use Rattle.match_book.specs.Laws.{HasPart, ReadingsAreFolded, NoneIsAnswered, OwedIsAnswered, IsUntouched, OthersAreUntouched, AllAreAnswered}
use Rattle.match_book.specs.declared.answer.AnswerRefusal.{AnswerRefusal}
use Rattle.match_book.specs.declared.answer.AnswerRefusal.TheVariants.{NoRole, Over, Stale, Twice}
use Rattle.match_book.specs.declared.answer.Mark.{Mark}
use Rattle.match_book.specs.declared.judgement.Judgement.{Judgement}
use Rattle.match_book.specs.declared.judgement.Substitution.TheVariants.{Retired}
use Rattle.match_book.specs.declared.turn.Turn.{Turn}
use Rattle.match_book.specs.declared.phase.Stage.{Stage}
use Rattle.match_book.specs.declared.phase.Stage.TheVariants.{Starting, Playing, Stopping, Aborting}
use Rattle.match_book.proofs.RoleTests.{is_there-blank, at_role-set, at_role-other, every_role-at, every_role-but}
use Rattle.match_book.proofs.Stages.{stage-by, stage-starting, stage-settled, settled-not_starting, live-not_asked, not_answered-parts, playing_means}
use Rattle.match_book.proofs.AnswerLaws.{taken, owed_answers_are_taken, answers_in_play}

-- ---- One more message

-- whether the role that answers is the role in question
abbrev IsOwn : ℕ → ℕ → Bool → Type 0
IsOwn role answering true = role ≡ answering
IsOwn role answering false = role ≢ answering

-- the answer of the role adds one message, and the answer of another role adds none
abbrev Adds : Bool → List Owed → List Owed → Owed → Type 0
Adds true before after owed = after ≡ before ++ owed ∷ []
Adds false before after owed = after ≡ before

abbrev Gives : Bool → Bool → Bool → Type 0
Gives true before after = (before ≡ false) × (after ≡ true)
Gives false before after = after ≡ before

adds : (own before after : Bool) (earlier : List Owed) (owed : Owed) → Gives own before after → Adds own (earlier ++ (if before then owed ∷ [] else [])) (earlier ++ (if after then owed ∷ [] else [])) owed
adds true true after earlier owed gives = absurd cc
adds true false true earlier owed gives = ap (λ l. l ++ owed ∷ []) (sym (append-nil earlier))
adds true false false earlier owed gives = absurd cc
adds false before after earlier owed gives = ap (λ b. earlier ++ (if b then owed ∷ [] else [])) gives

set_gives : {A : Type 0} (own : Bool) (xs : List (Option A)) (answering role : ℕ) (x : A) → IsOwn role answering own → answering < length xs → is_there xs answering ≡ false
    → Gives own (is_there xs role) (is_there (set xs answering (Some x)) role)
set_gives true xs answering role x same lt free = subst (λ k. Gives true (is_there xs k) (is_there (set xs answering (Some x)) k)) (sym same) (free, ap is_some (at_role-set xs answering (Some x) lt))
set_gives false xs answering role x other lt free = ap is_some (at_role-other xs answering role (Some x) other)

none_there : (earlier : List Owed) (owed : Owed) (b : Bool) → b ≡ false → earlier ++ (if b then owed ∷ [] else []) ≡ earlier
none_there earlier owed true is = absurd cc
none_there earlier owed false is = append-nil earlier

-- ---- One more turn

module _ {S M : Type 0} (g : Rules S M) (strikes role : ℕ) (turns : List (Turn M)) where
  plays-front : (more : List (Turn M)) (n : ℕ) → n ≤ length turns → plays_before g strikes role (turns ++ more) n ≡ plays_before g strikes role turns n
  plays-front more zero le = refl
  plays-front more (suc n) le = rw (plays-front more n (omega arith), take-append-le n turns more (omega arith)) refl

  plays-push : (t : Turn M) → plays_before g strikes role (turns ++ t ∷ []) (length (turns ++ t ∷ [])) ≡ plays_before g strikes role turns (length turns) ++ play_after g strikes role turns
  plays-push t =
      let long : length (turns ++ t ∷ []) ≡ suc (length turns) = length-append turns (t ∷ []) ∙ add-one (length turns) in
      ap (plays_before g strikes role (turns ++ t ∷ [])) long
      ∙ ap (λ l. l ++ play_after g strikes role (take (length turns) (turns ++ t ∷ []))) (plays-front (t ∷ []) (length turns) (omega arith))
      ∙ ap (λ l. plays_before g strikes role turns (length turns) ++ play_after g strikes role l) (take-append_seam turns (t ∷ []))

-- a round after START begins
begun_messages : {S M : Type 0} (g : Rules S M) (m : MatchValue M) (at : Stage) (role : ℕ) → at ≢ Starting → m.open_answers ≡ blank g.roles → m.end_marks ≡ blank g.roles → messages_in at g m role ≡ Start ∷ role_plays g m role
begun_messages g m Starting role ne answers ends = absurd (ne refl)
begun_messages g m Playing role ne answers ends = none_there (Start ∷ role_plays g m role) (Play (last_move_texts g m.turns)) (is_there m.open_answers role) (ap (λ l. is_there l role) answers ∙ is_there-blank _ g.roles role)
begun_messages g m Stopping role ne answers ends = none_there (Start ∷ role_plays g m role) (owed_in Stopping (last_move_texts g m.turns)) (is_there m.end_marks role) (ap (λ l. is_there l role) ends ∙ is_there-blank _ g.roles role)
begun_messages g m (Aborting c) role ne answers ends = none_there (Start ∷ role_plays g m role) (owed_in (Aborting c) (last_move_texts g m.turns)) (is_there m.end_marks role) (ap (λ l. is_there l role) ends ∙ is_there-blank _ g.roles role)

not_starting : {S M : Type 0} (g : Rules S M) (m : MatchValue M) → m.abort_asked ≡ false → every_role g.roles (is_there m.start_marks) ≡ true → stage g m ≢ Starting
not_starting g m asked started is = settled-not_starting g _ _ _ (sym (stage-settled g m asked started) ∙ is)

-- ---- What is due

owes : (over answered : Bool) (present : ℕ) (message : Owed) (n : ℕ) (owed : Owed) → (if over then IsOver else (if answered then Hold present else Owe present message)) ≡ Owe n owed
    → (over ≡ false) × (answered ≡ false) × (n ≡ present) × (owed ≡ message)
owes true answered present message n owed is = absurd cc
owes false true present message n owed is = absurd cc
owes false false present message n owed is = let same : n ≡ present = cc in let what : owed ≡ message = cc in (refl, refl, same, what)

-- the round continues, and the role has not answered
record IsStillOpen {S M : Type 0} (g : Rules S M) (m n : MatchValue M) (role : ℕ) : Type 0 where
  stage_is : stage g n ≡ stage g m
  round_is : round g n ≡ round g m
  turns_are : n.turns ≡ m.turns
  goes_on : is_over g n ≡ false
  free : has_answered g n role ≡ false

still_owed : {S M : Type 0} (g : Rules S M) (m n : MatchValue M) (role : ℕ) → is_over g m ≡ false → has_answered g m role ≡ false → IsStillOpen g m n role → due g n role ≡ due g m role
still_owed g m n role goes_on free still =
    let was : due g m role ≡ Owe (round g m) (owed_in (stage g m) (last_move_texts g m.turns)) = rw (goes_on, free) refl in
    let now : due g n role ≡ Owe (round g n) (owed_in (stage g n) (last_move_texts g n.turns)) = rw (still.goes_on, still.free) refl in
    now ∙ ap (λ k. Owe k (owed_in (stage g n) (last_move_texts g n.turns))) still.round_is ∙ ap (λ (x : Stage). Owe (round g m) (owed_in x (last_move_texts g n.turns))) still.stage_is
    ∙ ap (λ (l : List (Turn _)). Owe (round g m) (owed_in (stage g m) (last_move_texts g l))) still.turns_are ∙ sym was

at_stage : {S M : Type 0} (g : Rules S M) (m : MatchValue M) (at : Stage) (own : Bool) (role : ℕ) (after : List Owed) → stage g m ≡ at → Adds own (messages_in at g m role) after (owed_in at (last_move_texts g m.turns))
    → Adds own (answered_messages g m role) after (owed_in (stage g m) (last_move_texts g m.turns))
at_stage g m at own role after is adds = subst (λ (x : Stage). Adds own (messages_in x g m role) after (owed_in x (last_move_texts g m.turns))) (sym is) adds

module _ {S M : Type 0} (g : Rules S M) (m : MatchValue M) (lawful : IsLawfulMatch g m) (answering : ℕ) (within : answering < g.roles) (role : ℕ) (lt : role < g.roles) where
  -- ---- An answer to START

  module _ (mark : Mark) (is : stage g m ≡ Starting) (free : is_there m.start_marks answering ≡ false) where
    wide_start : answering < length m.start_marks
    wide_start = omega (arith, within, lawful.one_start_mark)

    no_turns : m.turns ≡ []
    no_turns = lawful.turns_after_start (every_role-but g.roles answering (is_there m.start_marks) within free)

    all_started : (all : Bool) → every_role g.roles (is_there (set m.start_marks answering (Some mark))) ≡ all
        → answered_messages g (with_start_mark m answering mark) role ≡ messages_in Starting g (with_start_mark m answering mark) role
    all_started false all = ap (λ (x : Stage). messages_in x g (with_start_mark m answering mark) role) (stage-starting g (with_start_mark m answering mark) (live-not_asked g m (ap is_live is)) all)
    all_started true all =
        begun_messages g (with_start_mark m answering mark) (stage g (with_start_mark m answering mark)) role (not_starting g (with_start_mark m answering mark) (live-not_asked g m (ap is_live is)) all)
        (lawful.answers_in_play (ap is_playing is)) (lawful.ends_at_end (ap is_live is))
        ∙ ap (λ (l : List (Turn M)). Start ∷ plays_before g m.setup.strikes role l (length l)) no_turns
        ∙ sym (ap (λ b. if b then Start ∷ [] else []) (every_role-at g.roles role (is_there (set m.start_marks answering (Some mark))) all lt))

    start_adds : (own : Bool) → IsOwn role answering own → Adds own (answered_messages g m role) (answered_messages g (with_start_mark m answering mark) role) (owed_in (stage g m) (last_move_texts g m.turns))
    start_adds own is_own =
        at_stage g m Starting own role (answered_messages g (with_start_mark m answering mark) role) is
        (subst (λ l. Adds own (messages_in Starting g m role) l Start) (sym (all_started (every_role g.roles (is_there (set m.start_marks answering (Some mark)))) refl))
        (adds own (is_there m.start_marks role) (is_there (set m.start_marks answering (Some mark)) role) [] Start (set_gives own m.start_marks answering role mark is_own wide_start free)))

    start_open : role ≢ answering → is_there m.start_marks role ≡ false → IsStillOpen g m (with_start_mark m answering mark) role
    start_open other missing =
        let still : is_there (set m.start_marks answering (Some mark)) role ≡ false = ap is_some (at_role-other m.start_marks answering role (Some mark) other) ∙ missing in
        let is' : stage g (with_start_mark m answering mark) ≡ Starting =
        stage-starting g (with_start_mark m answering mark) (live-not_asked g m (ap is_live is)) (every_role-but g.roles role (is_there (set m.start_marks answering (Some mark))) lt still) in
        record {
          stage_is = is' ∙ sym is;
          round_is = ap (λ (x : Stage). round_in x (every_role g.roles (is_there (set m.start_marks answering (Some mark)))) (length m.turns)) is' ∙ sym (ap (λ (x : Stage). round_in x (every_role g.roles (is_there m.start_marks)) (length m.turns)) is);
          turns_are = refl;
          goes_on = ap (λ (x : Stage). is_last (phase_in x (every_role g.roles (is_there m.end_marks)))) is';
          free = subst (λ (x : Stage). answered_in x (with_start_mark m answering mark) role ≡ false) (sym is') still;
        }

  -- ---- An answer in play

  module _ (j : Judgement M) (is : stage g m ≡ Playing) (unanswered : answered_in Playing m answering ≡ false) where
    parts_of : (still_answers m answering ≡ true) × (is_there m.open_answers answering ≡ false)
    parts_of = not_answered-parts m answering unanswered

    wide_open : answering < length m.open_answers
    wide_open = omega (arith, within, lawful.one_open_answer)

    there_is : HasPart g (record m { open_answers = set m.open_answers answering (Some j) }) role → (still : Bool) → still_answers m role ≡ still → is_there (set m.open_answers answering (Some j)) role ≡ still
    there_is has true is = ap is_some (sym (ap (λ b. if b then at_role (set m.open_answers answering (Some j)) role else substitute (g.legal (state_after g m.turns) role) Retired) is) ∙ has.is_part)
    there_is has false is =
        let other : role ≢ answering = λ e. let w : true ≡ false = sym parts_of.0 ∙ (subst (λ k. still_answers m k ≡ false) e is) in absurd cc in
        ap is_some (at_role-other m.open_answers answering role (Some j) other) ∙ none (at_role m.open_answers role) refl
      where
        none : (o : Option (Judgement M)) → at_role m.open_answers role ≡ o → is_some o ≡ false
        none None e = refl
        none (Some i) e = absurd (let w : true ≡ false = sym (lawful.judged role i lt e).0 ∙ is in cc)

    play_is : (strikes : ℕ) (out : Bool) → retired_by strikes m.turns role ≡ out → play_after g strikes role m.turns ≡ (if not out then Play (last_move_texts g m.turns) ∷ [] else [])
    play_is strikes true is = rw is refl
    play_is strikes false is = rw is refl

    turn_made : (t : Turn M) → HasPart g (record m { open_answers = set m.open_answers answering (Some j) }) role
        → answered_messages g (record m { turns = m.turns ++ t ∷ []; open_answers = blank g.roles }) role ≡ messages_in Playing g (record m { open_answers = set m.open_answers answering (Some j) }) role
    turn_made t has =
        let in_play = (playing_means g m).0 is in
        begun_messages g (record m { turns = m.turns ++ t ∷ []; open_answers = blank g.roles }) (stage g (record m { turns = m.turns ++ t ∷ []; open_answers = blank g.roles })) role
        (not_starting g (record m { turns = m.turns ++ t ∷ []; open_answers = blank g.roles }) in_play.not_asked in_play.started) refl (lawful.ends_at_end (ap is_live is))
        ∙ ap (λ l. Start ∷ l) (plays-push g m.setup.strikes role m.turns t)
        ∙ ap (λ l. Start ∷ (role_plays g m role ++ l)) (play_is m.setup.strikes (is_retired m role) refl)
        ∙ sym (ap (λ b. Start ∷ (role_plays g m role ++ (if b then Play (last_move_texts g m.turns) ∷ [] else []))) (there_is has (still_answers m role) refl))

    stays_open : answered_messages g (record m { open_answers = set m.open_answers answering (Some j) }) role ≡ messages_in Playing g (record m { open_answers = set m.open_answers answering (Some j) }) role
    stays_open = ap (λ (x : Stage). messages_in x g (record m { open_answers = set m.open_answers answering (Some j) }) role) (stage-by g m (record m { open_answers = set m.open_answers answering (Some j) }) refl refl refl refl ∙ is)

    play_adds : (after : MatchValue M) → answered_messages g after role ≡ messages_in Playing g (record m { open_answers = set m.open_answers answering (Some j) }) role
        → (own : Bool) → IsOwn role answering own → Adds own (answered_messages g m role) (answered_messages g after role) (owed_in (stage g m) (last_move_texts g m.turns))
    play_adds after same own is_own =
        at_stage g m Playing own role (answered_messages g after role) is
        (subst (λ l. Adds own (messages_in Playing g m role) l (Play (last_move_texts g m.turns))) (sym same)
        (adds own (is_there m.open_answers role) (is_there (set m.open_answers answering (Some j)) role) (Start ∷ role_plays g m role) (Play (last_move_texts g m.turns)) (set_gives own m.open_answers answering role j is_own wide_open parts_of.1)))

    no_turn : role ≢ answering → answered_in Playing m role ≡ false → HasPart g (record m { open_answers = set m.open_answers answering (Some j) }) role → ⊥
    no_turn other missing has =
        let own = not_answered-parts m role missing in
        let w : true ≡ false = sym (there_is has true own.0) ∙ ap is_some (at_role-other m.open_answers answering role (Some j) other) ∙ own.1 in
        cc

    play_open : role ≢ answering → answered_in Playing m role ≡ false → IsStillOpen g m (record m { open_answers = set m.open_answers answering (Some j) }) role
    play_open other missing =
        let same : stage g (record m { open_answers = set m.open_answers answering (Some j) }) ≡ stage g m = stage-by g m (record m { open_answers = set m.open_answers answering (Some j) }) refl refl refl refl in
        let own = not_answered-parts m role missing in
        record {
          stage_is = same;
          round_is = ap (λ (x : Stage). round_in x (every_role g.roles (is_there m.start_marks)) (length m.turns)) same;
          turns_are = refl;
          goes_on = ap (λ (x : Stage). is_last (phase_in x (every_role g.roles (is_there m.end_marks)))) (same ∙ is);
          free = subst (λ (x : Stage). answered_in x (record m { open_answers = set m.open_answers answering (Some j) }) role ≡ false) (sym (same ∙ is))
              (ap (λ b. if b then is_there (set m.open_answers answering (Some j)) role else true) own.0 ∙ ap is_some (at_role-other m.open_answers answering role (Some j) other) ∙ own.1);
        }

  -- ---- An answer to STOP or ABORT

  module _ (mark : Mark) (at : Stage) (is : stage g m ≡ at) (ended : is_live at ≡ false) (free : is_there m.end_marks answering ≡ false) where
    same_stage : stage g (with_end_mark m answering mark) ≡ stage g m
    same_stage = stage-by g m (with_end_mark m answering mark) refl refl refl refl

    end_adds : (own : Bool) → IsOwn role answering own → Adds own (answered_messages g m role) (answered_messages g (with_end_mark m answering mark) role) (owed_in (stage g m) (last_move_texts g m.turns))
    end_adds own is_own =
        at_stage g m at own role (answered_messages g (with_end_mark m answering mark) role) is
        (subst (λ l. Adds own (messages_in at g m role) l (owed_in at (last_move_texts g m.turns))) (sym (ap (λ (x : Stage). messages_in x g (with_end_mark m answering mark) role) (same_stage ∙ is)))
        (step at ended (set_gives own m.end_marks answering role mark is_own (omega (arith, within, lawful.one_end_mark)) free)))
      where
        step : (x : Stage) → is_live x ≡ false → Gives own (is_there m.end_marks role) (is_there (set m.end_marks answering (Some mark)) role)
            → Adds own (messages_in x g m role) (messages_in x g (with_end_mark m answering mark) role) (owed_in x (last_move_texts g m.turns))
        step Starting live gives = absurd cc
        step Playing live gives = absurd cc
        step Stopping live gives = adds own (is_there m.end_marks role) (is_there (set m.end_marks answering (Some mark)) role) (Start ∷ role_plays g m role) (owed_in Stopping (last_move_texts g m.turns)) gives
        step (Aborting c) live gives = adds own (is_there m.end_marks role) (is_there (set m.end_marks answering (Some mark)) role) (Start ∷ role_plays g m role) (owed_in (Aborting c) (last_move_texts g m.turns)) gives

    end_open : role ≢ answering → is_there m.end_marks role ≡ false → IsStillOpen g m (with_end_mark m answering mark) role
    end_open other missing =
        let still : is_there (set m.end_marks answering (Some mark)) role ≡ false = ap is_some (at_role-other m.end_marks answering role (Some mark) other) ∙ missing in
        let open' : every_role g.roles (is_there (set m.end_marks answering (Some mark))) ≡ false = every_role-but g.roles role (is_there (set m.end_marks answering (Some mark))) lt still in
        record {
          stage_is = same_stage;
          round_is = ap (λ (x : Stage). round_in x (every_role g.roles (is_there m.start_marks)) (length m.turns)) same_stage;
          turns_are = refl;
          goes_on = ap (λ b. is_last (phase_in (stage g (with_end_mark m answering mark)) b)) open' ∙ ap (λ (x : Stage). is_last (phase_in x false)) (same_stage ∙ is) ∙ going at ended;
          free = subst (λ (x : Stage). answered_in x (with_end_mark m answering mark) role ≡ false) (sym (same_stage ∙ is)) (missing_at at ended still);
        }
      where
        going : (x : Stage) → is_live x ≡ false → is_last (phase_in x false) ≡ false
        going Starting live = absurd cc
        going Playing live = absurd cc
        going Stopping live = refl
        going (Aborting c) live = refl

        missing_at : (x : Stage) → is_live x ≡ false → is_there (set m.end_marks answering (Some mark)) role ≡ false → answered_in x (with_end_mark m answering mark) role ≡ false
        missing_at Starting live still = absurd cc
        missing_at Playing live still = absurd cc
        missing_at Stopping live still = still
        missing_at (Aborting c) live still = still

module _ {S M : Type 0} (g : Rules S M) (laws : IsLawful g) (folded : ReadingsAreFolded) (m : MatchValue M) (lawful : IsLawfulMatch g m) (answering n : ℕ) (answer : Answer) (role : ℕ) (lt : role < g.roles) where
  now : refusal g m answering n ≡ None → (at : Stage) → stage g m ≡ at → after_answer g m answering n answer ≡ with_answer_in at g m answering answer
  now free at is = ap (λ o. if is_none o then with_answer g m answering answer else m) free ∙ ap (λ (x : Stage). with_answer_in x g m answering answer) is

  -- the match after an answer that it takes, by stage
  taken_adds : refusal g m answering n ≡ None → (own : Bool) → IsOwn role answering own
      → Adds own (answered_messages g m role) (answered_messages g (after_answer g m answering n answer) role) (owed_in (stage g m) (last_move_texts g m.turns))
  taken_adds free own is_own = step (stage g m) refl
    where
      facts : (answering < g.roles) × (n ≡ round g m) × (is_over g m ≡ false) × (has_answered g m answering ≡ false)
      facts = taken g m answering n free

      unanswered : (at : Stage) → stage g m ≡ at → answered_in at m answering ≡ false
      unanswered at is = subst (λ (x : Stage). answered_in x m answering ≡ false) is facts.3

      as_now : (at : Stage) → stage g m ≡ at → Adds own (answered_messages g m role) (answered_messages g (with_answer_in at g m answering answer) role) (owed_in (stage g m) (last_move_texts g m.turns))
          → Adds own (answered_messages g m role) (answered_messages g (after_answer g m answering n answer) role) (owed_in (stage g m) (last_move_texts g m.turns))
      as_now at is = subst (λ (x : MatchValue M). Adds own (answered_messages g m role) (answered_messages g x role) (owed_in (stage g m) (last_move_texts g m.turns))) (sym (now free at is))

      step : (at : Stage) → stage g m ≡ at → Adds own (answered_messages g m role) (answered_messages g (after_answer g m answering n answer) role) (owed_in (stage g m) (last_move_texts g m.turns))
      step Starting is = as_now Starting is (start_adds g m lawful answering facts.0 role lt (mark_of answer) is (unanswered Starting is) own is_own)
      step Playing is =
          let played = answers_in_play g laws folded m answering n answer lawful is free in
          let adds_if = play_adds g m lawful answering facts.0 role lt played.judged is (unanswered Playing is) (after_answer g m answering n answer) in
          elim played.opened_or_recorded [
            | inl opened ↦ adds_if (ap (λ (x : MatchValue M). answered_messages g x role) opened ∙ stays_open g m lawful answering facts.0 role lt played.judged is (unanswered Playing is)) own is_own
            | inr made ↦ adds_if (ap (λ (x : MatchValue M). answered_messages g x role) made.0 ∙ turn_made g m lawful answering facts.0 role lt played.judged is (unanswered Playing is) _ (made.1 role lt)) own is_own
          ]
      step Stopping is = as_now Stopping is (end_adds g m lawful answering facts.0 role lt (mark_of answer) Stopping is refl (unanswered Stopping is) own is_own)
      step (Aborting c) is = as_now (Aborting c) is (end_adds g m lawful answering facts.0 role lt (mark_of answer) (Aborting c) is refl (unanswered (Aborting c) is) own is_own)

  taken_open : refusal g m answering n ≡ None → role ≢ answering → has_answered g m role ≡ false → IsStillOpen g m (after_answer g m answering n answer) role
  taken_open free other missing = step (stage g m) refl
    where
      facts : (answering < g.roles) × (n ≡ round g m) × (is_over g m ≡ false) × (has_answered g m answering ≡ false)
      facts = taken g m answering n free

      at_role_is : (k : ℕ) → has_answered g m k ≡ false → (at : Stage) → stage g m ≡ at → answered_in at m k ≡ false
      at_role_is k none at is = subst (λ (x : Stage). answered_in x m k ≡ false) is none

      step : (at : Stage) → stage g m ≡ at → IsStillOpen g m (after_answer g m answering n answer) role
      step Starting is =
          subst (λ (x : MatchValue M). IsStillOpen g m x role) (sym (now free Starting is))
          (start_open g m lawful answering facts.0 role lt (mark_of answer) is (at_role_is answering facts.3 Starting is) other (at_role_is role missing Starting is))
      step Playing is =
          let played = answers_in_play g laws folded m answering n answer lawful is free in
          elim played.opened_or_recorded [
            | inl opened ↦
                subst (λ (x : MatchValue M). IsStillOpen g m x role) (sym opened)
                (play_open g m lawful answering facts.0 role lt played.judged is (at_role_is answering facts.3 Playing is) other (at_role_is role missing Playing is))
            | inr made ↦
                absurd (no_turn g m lawful answering facts.0 role lt played.judged is (at_role_is answering facts.3 Playing is) other (at_role_is role missing Playing is) (made.1 role lt))
          ]
      step Stopping is =
          subst (λ (x : MatchValue M). IsStillOpen g m x role) (sym (now free Stopping is))
          (end_open g m lawful answering facts.0 role lt (mark_of answer) Stopping is refl (at_role_is answering facts.3 Stopping is) other (at_role_is role missing Stopping is))
      step (Aborting c) is =
          subst (λ (x : MatchValue M). IsStillOpen g m x role) (sym (now free (Aborting c) is))
          (end_open g m lawful answering facts.0 role lt (mark_of answer) (Aborting c) is refl (at_role_is answering facts.3 (Aborting c) is) other (at_role_is role missing (Aborting c) is))

  untouched : role ≢ answering → IsUntouched g m (after_answer g m answering n answer) role
  untouched other = step (refusal g m answering n) refl
    where
      step : (o : Option AnswerRefusal) → refusal g m answering n ≡ o → IsUntouched g m (after_answer g m answering n answer) role
      step (Some f) is =
          let same : after_answer g m answering n answer ≡ m = ap (λ o. if is_none o then with_answer g m answering answer else m) is in
          subst (λ (x : MatchValue M). IsUntouched g m x role) (sym same) (record { answered = refl; owed = λ k owed given. given })
      step None is = record {
        answered = taken_adds is false other;
        owed = λ k owed given.
            let open' = owes (is_over g m) (has_answered g m role) (round g m) (owed_in (stage g m) (last_move_texts g m.turns)) k owed given in
            still_owed g m (after_answer g m answering n answer) role open'.0 open'.1 (taken_open is other open'.1) ∙ given;
      }

-- ---- The laws

pub none_is_answered : {S M : Type 0} (g : Rules S M) → NoneIsAnswered {M = M} g
none_is_answered {S} {M} g setup role lt =
    let none : is_there {A = Mark} (blank g.roles) role ≡ false = is_there-blank Mark g.roles role in
    ap (λ (x : Stage). messages_in x g (new_match {M = M} g setup) role) (stage-starting g (new_match {M = M} g setup) refl (every_role-but g.roles role (is_there {A = Mark} (blank g.roles)) lt none))
    ∙ ap (λ b. if b then Start ∷ [] else []) none

pub owed_is_answered : {S M : Type 0} (g : Rules S M) → IsLawful g → ReadingsAreFolded → OwedIsAnswered g
owed_is_answered g laws folded m role n owed answer lawful lt is =
    let free = owed_answers_are_taken g m role n owed lt is in
    let what = (owes (is_over g m) (has_answered g m role) (round g m) (owed_in (stage g m) (last_move_texts g m.turns)) n owed is).3 in
    taken_adds g laws folded m lawful role n answer role lt free true refl ∙ ap (λ o. answered_messages g m role ++ o ∷ []) (sym what)

pub others_are_untouched : {S M : Type 0} (g : Rules S M) → IsLawful g → ReadingsAreFolded → OthersAreUntouched g
others_are_untouched g laws folded m role other n answer lawful lt apart = untouched g laws folded m lawful other n answer role lt apart

pub all_are_answered : {S M : Type 0} (g : Rules S M) → AllAreAnswered g
all_are_answered {S} {M} g m over = record {
  answered = λ role lt. step role lt (stage g m) (every_role g.roles (is_there m.end_marks)) refl over;
  stays = λ role n answer. ap (λ o. if is_none o then with_answer g m role answer else m) (refused role n (nat_lt role g.roles) (is_over g m) over).1;
}
  where
    step : (role : ℕ) → role < g.roles → (at : Stage) (all : Bool) → every_role g.roles (is_there m.end_marks) ≡ all → is_last (phase_in at all) ≡ true
        → messages_in at g m role ≡ Start ∷ (role_plays g m role ++ owed_in at (last_move_texts g m.turns) ∷ [])
    step role lt Starting all is last = absurd cc
    step role lt Playing all is last = absurd cc
    step role lt Stopping false is last = absurd cc
    step role lt (Aborting c) false is last = absurd cc
    step role lt Stopping true is last = rw (every_role-at g.roles role (is_there m.end_marks) is lt) refl
    step role lt (Aborting c) true is last = rw (every_role-at g.roles role (is_there m.end_marks) is lt) refl

    refused : (role n : ℕ) (within over : Bool) → over ≡ true → (f : AnswerRefusal)
        × ((if within then (if over then Some Over else (if n == round g m then (if has_answered g m role then Some Twice else None) else Some (Stale (round g m)))) else Some NoRole) ≡ Some f)
    refused role n false over is = (NoRole, refl)
    refused role n true true is = (Over, refl)
    refused role n true false is = absurd cc
