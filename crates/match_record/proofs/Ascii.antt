-- The texts of a record are ASCII.
use Rattle.std.proofs.Common.{◌≡◌, inl, inr, ℕ, zero, suc, ◌<◌, nat_lt, Bool, true, false, Option, Some, None, List, [], ◌∷◌, ◌++◌, length, take, codes, refl, sym, subst, arith, lit<}
use Rattle.std.specs.Prelude.{slice_index_or, slice_get, option_map, option_and_then, All, IfSome}
use Rattle.std.specs.List.{list_all}
use Rattle.std.specs.Str.{IsAscii}
use Rattle.std.proofs.lemmas.Str.{IsAscii-append}
use Rattle.std.proofs.lemmas.Option.{get_or_from_slice_get}
use Rattle.std.proofs.lemmas.Bool.{and_parts}
use Rattle.std.proofs.lemmas.Bool.Decides.{nat_tests}
use Rattle.game_core.specs.Bytes.{is_atom_byte, left_parenthesis, right_parenthesis, space}
use Rattle.game_core.specs.Expression.{Expression, atom, list, Expressions, none, more, AreAtomBytes, HasAtoms, AllHaveAtoms}
use Rattle.game_core.specs.Canonical.{canonical, members, later, IsCanonicalText, IsFoldedText}
use Rattle.game_core.specs.Play.{Rules}
use Rattle.desk_calls.specs.Names.{is_name, is_name_byte}
use Rattle.match_book.specs.Marks.{mark_text}
use Rattle.match_book.specs.Judgement.{IsSubstitution, IsJudged, IsPart, unreadable_text, retired_text, illegal_prefix}
use Rattle.match_book.specs.Retirement.{retired_by}
use Rattle.match_book.specs.MatchValue.{error_at}
use Rattle.match_book.specs.Lawful.{IsLawfulTurn, AreLawful}
use Rattle.match_book.specs.declared.answer.Mark.{Mark}
use Rattle.match_book.specs.declared.answer.Mark.TheVariants.{Clear, TimeOut, ConnectionError}
use Rattle.match_book.specs.declared.judgement.Substitution.TheVariants.{TimeOut as OfTime, ConnectionError as OfConnection, Unreadable, Illegal, Retired}
use Rattle.desk_calls.specs.Phases.{phase_text}
use Rattle.desk_calls.specs.declared.phase.Phase.{Phase}
use Rattle.desk_calls.specs.declared.phase.Phase.TheVariants.{Starting, Playing, Stopping, Finished, Aborting, Aborted}
use Rattle.match_book.specs.declared.turn.Turn.{Turn}

small_byte : (b : ℕ) → nat_lt b 128 ≡ true → b < 128
small_byte b is = grind (arith, nat_tests)

-- for a fixed text, it is enough to compute the test
tested : (bs : List ℕ) → list_all (λ b. nat_lt b 128) bs ≡ true → IsAscii bs
tested [] is i = omega arith
tested (b ∷ bs) is zero = small_byte b (and_parts (nat_lt b 128) (list_all (λ c. nat_lt c 128) bs) is).0
tested (b ∷ bs) is (suc i) = tested bs (and_parts (nat_lt b 128) (list_all (λ c. nat_lt c 128) bs) is).1 i

atom_byte_is_small : (b : ℕ) → is_atom_byte b ≡ true → b < 128
atom_byte_is_small b is = grind (arith, nat_tests)

atom_is_ascii : (bs : List ℕ) → AreAtomBytes bs → IsAscii bs
atom_is_ascii [] is i = omega arith
atom_is_ascii (b ∷ bs) is zero = atom_byte_is_small b is.0
atom_is_ascii (b ∷ bs) is (suc i) = atom_is_ascii bs is.1 i

behind : (b : ℕ) (bs : List ℕ) → b < 128 → IsAscii bs → IsAscii (b ∷ bs)
behind b bs small is zero = small
behind b bs small is (suc i) = is i

mutual
  canonical_is_ascii : (x : Expression) → HasAtoms x → IsAscii (canonical x)
  canonical_is_ascii (atom w) has = atom_is_ascii w has.1
  canonical_is_ascii (list xs) has = behind left_parenthesis (members xs ++ right_parenthesis ∷ []) (lit< tt) (IsAscii-append (members xs) (right_parenthesis ∷ []) (members_are_ascii xs has) (tested (right_parenthesis ∷ []) refl))

  members_are_ascii : (xs : Expressions) → AllHaveAtoms xs → IsAscii (members xs)
  members_are_ascii none has = tested [] refl
  members_are_ascii (more x xs) has = IsAscii-append (canonical x) (later xs) (canonical_is_ascii x has.0) (later_is_ascii xs has.1)

  later_is_ascii : (xs : Expressions) → AllHaveAtoms xs → IsAscii (later xs)
  later_is_ascii none has = tested [] refl
  later_is_ascii (more x xs) has = behind space (canonical x ++ later xs) (lit< tt) (IsAscii-append (canonical x) (later xs) (canonical_is_ascii x has.0) (later_is_ascii xs has.1))

pub canonical_text_is_ascii : (text : List ℕ) → IsCanonicalText text → IsAscii text
canonical_text_is_ascii text is = subst IsAscii (sym is.2) (canonical_is_ascii is.0 is.1.0)

pub folded_text_is_ascii : (text : List ℕ) → IsFoldedText text → IsAscii text
folded_text_is_ascii text is = subst IsAscii (sym is.3) (canonical_is_ascii is.0 is.1.0)

pub canonical_texts_are_ascii : (texts : List (List ℕ)) → All IsCanonicalText texts → All IsAscii texts
canonical_texts_are_ascii texts are k d within = canonical_text_is_ascii (slice_index_or texts k d) (are k d within)

name_byte_is_small : (b : ℕ) → is_name_byte b ≡ true → b < 128
name_byte_is_small b is = grind (arith, nat_tests)

name_bytes_are_ascii : (w : List ℕ) → list_all is_name_byte w ≡ true → IsAscii w
name_bytes_are_ascii [] is i = omega arith
name_bytes_are_ascii (b ∷ bs) is zero = name_byte_is_small b (and_parts (is_name_byte b) (list_all is_name_byte bs) is).0
name_bytes_are_ascii (b ∷ bs) is (suc i) = name_bytes_are_ascii bs (and_parts (is_name_byte b) (list_all is_name_byte bs) is).1 i

pub name_is_ascii : (w : List ℕ) → is_name w ≡ true → IsAscii w
name_is_ascii w is = name_bytes_are_ascii w (and_parts _ (list_all is_name_byte w) is).1

pub names_are_ascii : (ws : List (List ℕ)) → list_all is_name ws ≡ true → All IsAscii ws
names_are_ascii [] are k d within = absurd (omega arith)
names_are_ascii (w ∷ ws) are zero d within = name_is_ascii w (and_parts (is_name w) (list_all is_name ws) are).0
names_are_ascii (w ∷ ws) are (suc k) d within = names_are_ascii ws (and_parts (is_name w) (list_all is_name ws) are).1 k d (omega arith)

pub mark_is_ascii : (m : Mark) → IsAscii (mark_text m)
mark_is_ascii Clear = tested [] refl
mark_is_ascii TimeOut = tested (codes "TO") refl
mark_is_ascii ConnectionError = tested (codes "CE") refl

pub marks_are_ascii : (o : Option Mark) → IfSome (option_map mark_text o) IsAscii
marks_are_ascii None = tt
marks_are_ascii (Some m) = mark_is_ascii m

pub phase_is_ascii : (p : Phase) → IsAscii (phase_text p)
phase_is_ascii Starting = tested (codes "starting") refl
phase_is_ascii Playing = tested (codes "playing") refl
phase_is_ascii Stopping = tested (codes "stopping") refl
phase_is_ascii Finished = tested (codes "finished") refl
phase_is_ascii Aborting = tested (codes "aborting") refl
phase_is_ascii Aborted = tested (codes "aborted") refl

substitution_is_ascii : {S M : Type 0} (g : Rules S M) (moves : List M) (e : List ℕ) → IsSubstitution g moves e → IsAscii e
substitution_is_ascii g moves e (OfTime, is, stands) = subst IsAscii (sym is) (tested (codes "TO") refl)
substitution_is_ascii g moves e (OfConnection, is, stands) = subst IsAscii (sym is) (tested (codes "CE") refl)
substitution_is_ascii g moves e (Unreadable, is, stands) = subst IsAscii (sym is) (tested unreadable_text refl)
substitution_is_ascii g moves e (Illegal x, is, stands) = subst IsAscii (sym is) (IsAscii-append illegal_prefix x (tested illegal_prefix refl) (folded_text_is_ascii x stands.0))
substitution_is_ascii g moves e (Retired, is, stands) = absurd stands

judged_is_ascii : {S M : Type 0} (g : Rules S M) (moves : List M) (m : M) (e : List ℕ) → IsJudged g moves m e → IsAscii e
judged_is_ascii g moves m e (has, inl is) = subst IsAscii (sym is) (tested [] refl)
judged_is_ascii g moves m e (has, inr is) = substitution_is_ascii g moves e is.1

part_is_ascii : {S M : Type 0} (g : Rules S M) (retired : Bool) (moves : List M) (m : M) (e : List ℕ) → IsPart g retired moves m e → IsAscii e
part_is_ascii g true moves m e (first, is) = subst IsAscii (sym is) (tested retired_text refl)
part_is_ascii g false moves m e judged = judged_is_ascii g moves m e judged

there : {A : Type 0} (xs : List A) (i : ℕ) → i < length xs → A
there [] i within = absurd (omega arith)
there (x ∷ xs) i within = x

turn_error_is_ascii : {S M : Type 0} (g : Rules S M) (strikes : ℕ) (before : List (Turn M)) (t : Turn M) (r : ℕ) (e : List ℕ) → IsLawfulTurn g strikes before t → r < g.roles → slice_get t.errors r ≡ Some e → IsAscii e
turn_error_is_ascii g strikes before t r e lawful role at =
    let some : r < length t.moves = omega (arith, lawful.joint.width) in
    let judged = lawful.judged r (there t.moves r some) role in
    subst IsAscii (get_or_from_slice_get t.errors r e [] at) (part_is_ascii g (retired_by strikes before r) _ _ _ judged)

pub error_is_ascii : {S M : Type 0} (g : Rules S M) {strikes : ℕ} (turns : List (Turn M)) (k r : ℕ) (e : List ℕ) → AreLawful g strikes turns → k < length turns → r < g.roles → error_at turns k r ≡ Some e → IsAscii e
error_is_ascii {S} {M} g {strikes} turns k r e lawful turn role at = go (slice_get turns k) refl at
  where
    go : (o : Option (Turn M)) → slice_get turns k ≡ o → option_and_then (λ t. slice_get t.errors r) o ≡ Some e → IsAscii e
    go None is found = absurd cc
    go (Some t) is found = turn_error_is_ascii g strikes (take k turns) t r e (subst (λ (u : Turn M). IsLawfulTurn g strikes (take k turns) u) (get_or_from_slice_get turns k t t is) (lawful k t turn)) role found
