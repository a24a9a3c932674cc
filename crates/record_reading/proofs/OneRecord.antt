-- A tree has the parts of only one record, and a text that is refused for its shape is not a lawful record.
use Rattle.std.proofs.Common.{◌≡◌, ◌≢◌, ℕ, suc, ◌<◌, ◌≤◌, Option, Some, None, List, [], ◌∷◌, length, drop, inl, inr, refl, sym, ap, ◌∙◌, subst, arith, codes, if◌then◌else◌}
use Rattle.std.specs.Prelude.{IfSome}
use Rattle.std.specs.Fmt.{decimal}
use Rattle.std.specs.Str.{bytes_eq}
use Rattle.std.proofs.lemmas.Fmt.{decimal_injective}
use Rattle.serde_json.specs.Data.{Data}
use Rattle.game_core.specs.Play.{Rules, IsLawful, max_roles}
use Rattle.match_book.specs.MatchValue.{MatchValue}
use Rattle.match_book.specs.Marks.{mark_text}
use Rattle.match_book.specs.declared.answer.Mark.{Mark}
use Rattle.match_book.specs.declared.answer.Mark.TheVariants.{Clear, TimeOut, ConnectionError}
use Rattle.match_book.specs.declared.phase.Cause.{Cause}
use Rattle.match_book.specs.declared.phase.Cause.TheVariants.{Asked, NoLegal, NoGoal, TooLong, AllRetired}
use Rattle.desk_calls.specs.Phases.{phase_text}
use Rattle.desk_calls.specs.declared.phase.Phase.{Phase}
use Rattle.desk_calls.specs.declared.phase.Phase.TheVariants.{Starting, Playing, Stopping, Finished, Aborting, Aborted}
use Rattle.record_reading.specs.LawfulRecord.{IsJson, IsRecordOf, HasWrongLength, IsMisshapen, HoldsOnePartsAtMost, LawfulPartsHaveShape, RefusedIsUnlawful}
use Rattle.record_reading.specs.RecordParts.{parts_in, NamesRole}
use Rattle.record_reading.specs.RecordTree.{row_of, key_tree, Holds, HasShape, cause_tree, cause_text, phase_tree, mark_tree, marks_tree, version_tree, whole_tree}
use Rattle.record_reading.specs.declared.record_parts.Key.{Key}
use Rattle.record_reading.specs.declared.record_parts.Key.TheVariants.{Cause as AtCause, EndMarks, Errors, GoalValues, MatchId, Moves, Phase as AtPhase, PlayClock, Players, Roles, StartClock, StartMarks, States, Strikes, Version as AtVersion}
use Rattle.record_reading.specs.declared.record_parts.RecordParts.{RecordParts}
use Rattle.record_reading.specs.declared.record_parts.Version.{Version}
use Rattle.record_reading.specs.declared.record_parts.Version.TheVariants.{First, Second}
use Rattle.record_reading.specs.declared.verify_fault.VerifyFault.TheVariants.{NotJson, BadShape, Illegal as IllegalMove, NotFirst, WrongRetired, WrongState, WrongGoals, WrongEnd, Memory}
use Rattle.record_reading.proofs.JsonData.{list_injective, string_injective, texts_injective, text_lists_injective}

mark_of_text : List ℕ → Option Mark
mark_of_text text = if bytes_eq text [] then Some Clear else (if bytes_eq text (codes "TO") then Some TimeOut else Some ConnectionError)

mark_again : (m : Mark) → mark_of_text (mark_text m) ≡ Some m
unfolding mark_of_text
mark_again Clear = refl
mark_again TimeOut = refl
mark_again ConnectionError = refl

mark_text_same : (m n : Mark) → mark_text m ≡ mark_text n → m ≡ n
mark_text_same m n is = let same : Some m ≡ Some n = sym (mark_again m) ∙ ap mark_of_text is ∙ mark_again n in cc

mark_tree_same : (m n : Option Mark) → mark_tree m ≡ mark_tree n → m ≡ n
mark_tree_same None None is = refl
mark_tree_same None (Some n) is = absurd cc
mark_tree_same (Some m) None is = absurd cc
mark_tree_same (Some m) (Some n) is = ap Some (mark_text_same m n (string_injective (mark_text m) (mark_text n) is))

marks_same : (ms ns : List (Option Mark)) → marks_tree ms ≡ marks_tree ns → ms ≡ ns
marks_same = list_injective mark_tree mark_tree_same

phase_of_text : List ℕ → Option Phase
phase_of_text text =
    if bytes_eq text (codes "starting") then Some Starting
    else (if bytes_eq text (codes "playing") then Some Playing
    else (if bytes_eq text (codes "stopping") then Some Stopping
    else (if bytes_eq text (codes "finished") then Some Finished
    else (if bytes_eq text (codes "aborting") then Some Aborting
    else Some Aborted))))

phase_again : (p : Phase) → phase_of_text (phase_text p) ≡ Some p
unfolding phase_of_text
phase_again Starting = refl
phase_again Playing = refl
phase_again Stopping = refl
phase_again Finished = refl
phase_again Aborting = refl
phase_again Aborted = refl

phase_same : (p q : Phase) → phase_tree p ≡ phase_tree q → p ≡ q
phase_same p q is = let same : Some p ≡ Some q = sym (phase_again p) ∙ ap phase_of_text (string_injective (phase_text p) (phase_text q) is) ∙ phase_again q in cc

apart : (x y : ℕ) (xs ys : List ℕ) → x ≢ y → x ∷ xs ≡ y ∷ ys → ⊥
apart x y xs ys differ is = differ cc

role_same : (r s n : ℕ) → n ≤ max_roles → r < n → s < n → decimal r ≡ decimal s → r ≡ s
role_same r s n few below under is = decimal_injective r s (omega arith) (omega arith) is

cause_text_same : (n : ℕ) → n ≤ max_roles → (a b : Cause) → NamesRole n a → NamesRole n b → cause_text a ≡ cause_text b → a ≡ b
cause_text_same n few Asked Asked named other is = refl
cause_text_same n few Asked (NoLegal s) named other is = absurd (apart 97 110 _ _ (λ h. omega arith) is)
cause_text_same n few Asked (NoGoal s) named other is = absurd (apart 97 110 _ _ (λ h. omega arith) is)
cause_text_same n few Asked TooLong named other is = absurd (apart 97 116 _ _ (λ h. omega arith) is)
cause_text_same n few Asked AllRetired named other is = absurd (apart 115 108 _ _ (λ h. omega arith) (ap (drop 1) is))
cause_text_same n few (NoLegal r) Asked named other is = absurd (apart 110 97 _ _ (λ h. omega arith) is)
cause_text_same n few (NoLegal r) (NoLegal s) named other is = let digits : decimal r ≡ decimal s = cc in ap NoLegal (role_same r s n few named other digits)
cause_text_same n few (NoLegal r) (NoGoal s) named other is = absurd (apart 108 103 _ _ (λ h. omega arith) (ap (drop 2) is))
cause_text_same n few (NoLegal r) TooLong named other is = absurd (apart 110 116 _ _ (λ h. omega arith) is)
cause_text_same n few (NoLegal r) AllRetired named other is = absurd (apart 110 97 _ _ (λ h. omega arith) is)
cause_text_same n few (NoGoal r) Asked named other is = absurd (apart 110 97 _ _ (λ h. omega arith) is)
cause_text_same n few (NoGoal r) (NoLegal s) named other is = absurd (apart 103 108 _ _ (λ h. omega arith) (ap (drop 2) is))
cause_text_same n few (NoGoal r) (NoGoal s) named other is = let digits : decimal r ≡ decimal s = cc in ap NoGoal (role_same r s n few named other digits)
cause_text_same n few (NoGoal r) TooLong named other is = absurd (apart 110 116 _ _ (λ h. omega arith) is)
cause_text_same n few (NoGoal r) AllRetired named other is = absurd (apart 110 97 _ _ (λ h. omega arith) is)
cause_text_same n few TooLong Asked named other is = absurd (apart 116 97 _ _ (λ h. omega arith) is)
cause_text_same n few TooLong (NoLegal s) named other is = absurd (apart 116 110 _ _ (λ h. omega arith) is)
cause_text_same n few TooLong (NoGoal s) named other is = absurd (apart 116 110 _ _ (λ h. omega arith) is)
cause_text_same n few TooLong TooLong named other is = refl
cause_text_same n few TooLong AllRetired named other is = absurd (apart 116 97 _ _ (λ h. omega arith) is)
cause_text_same n few AllRetired Asked named other is = absurd (apart 108 115 _ _ (λ h. omega arith) (ap (drop 1) is))
cause_text_same n few AllRetired (NoLegal s) named other is = absurd (apart 97 110 _ _ (λ h. omega arith) is)
cause_text_same n few AllRetired (NoGoal s) named other is = absurd (apart 97 110 _ _ (λ h. omega arith) is)
cause_text_same n few AllRetired TooLong named other is = absurd (apart 97 116 _ _ (λ h. omega arith) is)
cause_text_same n few AllRetired AllRetired named other is = refl

cause_same : (n : ℕ) → n ≤ max_roles → (a b : Option Cause) → IfSome a (NamesRole n) → IfSome b (NamesRole n) → cause_tree a ≡ cause_tree b → a ≡ b
cause_same n few None None named other is = refl
cause_same n few None (Some b) named other is = absurd cc
cause_same n few (Some a) None named other is = absurd cc
cause_same n few (Some a) (Some b) named other is = ap Some (cause_text_same n few a b named other (string_injective (cause_text a) (cause_text b) is))

number_same : (a b : ℕ) → whole_tree a ≡ whole_tree b → a ≡ b
number_same a b is = cc

version_same : (v w : Version) → version_tree v ≡ version_tree w → v ≡ w
version_same First First is = refl
version_same First Second is = absurd (omega (arith, number_same 1 2 is))
version_same Second First is = absurd (omega (arith, number_same 2 1 is))
version_same Second Second is = refl

value_same : {S M : Type 0} (g : Rules S M) → g.roles ≤ max_roles → (key : Key) (x y : (row_of key).Value) → (row_of key).IsOfShape g x → (row_of key).IsOfShape g y → (row_of key).written x ≡ (row_of key).written y → x ≡ y
value_same g few AtCause x y fits also is = cause_same g.roles few x y fits also is
value_same g few EndMarks x y fits also is = marks_same x y is
value_same g few Errors x y fits also is = text_lists_injective x y is
value_same g few GoalValues x y fits also is = list_injective whole_tree number_same x y is
value_same g few MatchId x y fits also is = string_injective x y is
value_same g few Moves x y fits also is = text_lists_injective x y is
value_same g few AtPhase x y fits also is = phase_same x y is
value_same g few PlayClock x y fits also is = number_same x y is
value_same g few Players x y fits also is = texts_injective x y is
value_same g few Roles x y fits also is = texts_injective x y is
value_same g few StartClock x y fits also is = number_same x y is
value_same g few StartMarks x y fits also is = marks_same x y is
value_same g few States x y fits also is = text_lists_injective x y is
value_same g few Strikes x y fits also is = number_same x y is
value_same g few AtVersion x y fits also is = version_same x y is

same_parts : (p q : RecordParts) → ((key : Key) → (row_of key).said p ≡ (row_of key).said q) → p ≡ q
same_parts p q same = λ i. record {
  cause = same AtCause i;
  end_marks = same EndMarks i;
  errors = same Errors i;
  goals = same GoalValues i;
  id = same MatchId i;
  moves = same Moves i;
  phase = same AtPhase i;
  play = same PlayClock i;
  players = same Players i;
  roles = same Roles i;
  start = same StartClock i;
  start_marks = same StartMarks i;
  states = same States i;
  strikes = same Strikes i;
  version = same AtVersion i;
}

same_tree : (tree : Data) (p q : RecordParts) → Holds tree p → Holds tree q → (key : Key) → key_tree key p ≡ key_tree key q
same_tree tree p q held also key = let same : Some (key_tree key p) ≡ Some (key_tree key q) = sym (held key) ∙ also key in cc

pub holds_one_parts_at_most : {S M : Type 0} (g : Rules S M) → IsLawful g → HoldsOnePartsAtMost g
holds_one_parts_at_most g laws tree p q shaped also_shaped held also =
    same_parts p q (λ key. value_same g laws.few_roles key ((row_of key).said p) ((row_of key).said q) (shaped.keys key) (also_shaped.keys key) (same_tree tree p q held also key))

right_lengths : {S M : Type 0} (g : Rules S M) (tree : Data) (p q : RecordParts) (key : Key) → Holds tree p → Holds tree q → HasShape g q → HasWrongLength p key → ⊥
right_lengths g tree p q key held also shape (inl errors) =
    let at = same_tree tree p q held also in
    errors.1 (ap length (text_lists_injective p.errors q.errors (at Errors)) ∙ shape.as_many_errors ∙ sym (ap length (text_lists_injective p.moves q.moves (at Moves))))
right_lengths g tree p q key held also shape (inr states) =
    let at = same_tree tree p q held also in
    states.2 (ap length (text_lists_injective p.states q.states (at States)) ∙ shape.one_state_more ∙ sym (ap (λ ts. suc (length ts)) (text_lists_injective p.moves q.moves (at Moves))))

not_misshapen : {S M : Type 0} (g : Rules S M) → LawfulPartsHaveShape g → (text : List ℕ) (tree : Data) (m : MatchValue M) (key : Key) → IsRecordOf g text tree m → IsMisshapen g tree key → ⊥
not_misshapen g shapes text tree m key record_of (inl (before, after, split, shaped, unshaped)) =
    let shape = shapes m record_of.version record_of.lawful record_of.setup in
    unshaped ((row_of key).said (parts_in g record_of.version m), record_of.holds key, shape.keys key)
not_misshapen g shapes text tree m key record_of (inr (p, held, shaped, wrong)) =
    right_lengths g tree p (parts_in g record_of.version m) key held record_of.holds (shapes m record_of.version record_of.lawful record_of.setup) wrong

pub same_read : (text : List ℕ) (tree other : Data) → IsJson text tree → IsJson text other → tree ≡ other
same_read text tree other is also = let same : Some tree ≡ Some other = sym is.is_read ∙ also.is_read in cc

pub refused_is_unlawful : {S M : Type 0} (g : Rules S M) → LawfulPartsHaveShape g → RefusedIsUnlawful g
refused_is_unlawful g shapes text NotJson other refuses (tree, m, record_of) = refuses tree record_of.json
refused_is_unlawful g shapes text (BadShape key) other (found, json, misshapen) (tree, m, record_of) =
    let same = same_read text found tree json record_of.json in
    not_misshapen g shapes text tree m key record_of (subst (λ (d : Data). IsMisshapen g d key) same misshapen)
refused_is_unlawful g shapes text (IllegalMove turn role) other refuses found = refuses
refused_is_unlawful g shapes text (NotFirst turn role) other refuses found = refuses
refused_is_unlawful g shapes text (WrongRetired turn role) other refuses found = refuses
refused_is_unlawful g shapes text (WrongState turn) other refuses found = refuses
refused_is_unlawful g shapes text WrongGoals other refuses found = refuses
refused_is_unlawful g shapes text WrongEnd other refuses found = refuses
refused_is_unlawful g shapes text Memory other refuses found = other refl
