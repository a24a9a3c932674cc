-- The texts of the terms in expressions. Each is a lower-case text, and not the text of a variable.
use Rattle.std.specs.Prelude.{ℕ, zero, suc, ◌<◌, ◌≤◌, ◌≡◌, ◌≢◌, Bool, true, false, not, ◌&&◌, ◌||◌, ◌==◌, nat_le, bytes_eq, codes, List, [], ◌∷◌, map, length, refl, slice_index_or}
use Rattle.std.proofs.Common.{arith, ap, sym, ◌∙◌}
use Rattle.std.proofs.lemmas.Bool.Decides.{nat_tests}
use Rattle.game_core.specs.Bytes.{is_atom_byte, lower}
use Rattle.game_core.specs.Expression.{Expression, atom, list, Expressions, none, more, folded, all_folded, AreAtomBytes, IsAtom, HasAtoms, AllHaveAtoms}
use Rattle.game_core.specs.Canonical.{canonical, IsFoldedText}
use Rattle.ground_rules.specs.Lawfulness.Bools.{and-left, and-right, not-true}
use Rattle.ground_rules.specs.Lawfulness.Names.{text-sound, number-sound}
use Rattle.rule_sentences.specs.Terms.{question_mark, are_small_atom_bytes, is_word, begins_with_atom, is_term, are_terms, is_ground_term}

-- whether the expression contains a term without variables that has this text
abbrev mutual
  pub is_term_in : Expression → List ℕ → Bool
  is_term_in (atom w) t = is_ground_term (atom w) && bytes_eq w t
  is_term_in (list xs) t = (is_ground_term (list xs) && bytes_eq (canonical (list xs)) t) || is_term_in_any xs t

  pub is_term_in_any : Expressions → List ℕ → Bool
  is_term_in_any none t = false
  is_term_in_any (more x xs) t = is_term_in x t || is_term_in_any xs t

-- whether each text is the text of some term without variables in the expressions
abbrev pub are_terms_in_any : Expressions → List (List ℕ) → Bool
are_terms_in_any xs [] = true
are_terms_in_any xs (t ∷ ts) = is_term_in_any xs t && are_terms_in_any xs ts

-- the canonical text of a term without variables
abbrev pub IsTermText : List ℕ → Type 0
IsTermText t = (x : Expression) × (is_ground_term x ≡ true) × (t ≡ canonical x)

small-atom-bytes : (w : List ℕ) → are_small_atom_bytes w ≡ true → AreAtomBytes w
small-atom-bytes [] h = tt
small-atom-bytes (b ∷ bs) h = (and-left (is_atom_byte b) _ (and-left (is_atom_byte b && (lower b == b)) _ h), small-atom-bytes bs (and-right (is_atom_byte b && (lower b == b)) _ h))

small-lower : (w : List ℕ) → are_small_atom_bytes w ≡ true → map lower w ≡ w
small-lower [] h = refl
small-lower (b ∷ bs) h =
    let first : lower b ≡ b = number-sound _ _ (and-right (is_atom_byte b) _ (and-left (is_atom_byte b && (lower b == b)) _ h)) in
    let rest = small-lower bs (and-right (is_atom_byte b && (lower b == b)) _ h) in
    cc

word-is-small : (w : List ℕ) → is_word w ≡ true → are_small_atom_bytes w ≡ true
word-is-small [] h = absurd cc
word-is-small (b ∷ bs) h = and-right (not (b == question_mark)) _ h

word-is-atom : (w : List ℕ) → is_word w ≡ true → IsAtom w
word-is-atom [] h = absurd cc
word-is-atom (b ∷ bs) h = (omega arith, small-atom-bytes (b ∷ bs) (word-is-small (b ∷ bs) h))

mutual
  term-atoms : (x : Expression) → is_term x ≡ true → HasAtoms x
  term-atoms (atom w) h = word-is-atom w h
  term-atoms (list xs) h = terms-atoms xs (and-right (begins_with_atom xs) _ h)

  terms-atoms : (xs : Expressions) → are_terms xs ≡ true → AllHaveAtoms xs
  terms-atoms none h = tt
  terms-atoms (more x xs) h = (term-atoms x (and-left (is_term x) _ h), terms-atoms xs (and-right (is_term x) _ h))

mutual
  term-folded : (x : Expression) → is_term x ≡ true → folded x ≡ x
  term-folded (atom w) h = ap atom (small-lower w (word-is-small w h))
  term-folded (list xs) h = ap list (terms-folded xs (and-right (begins_with_atom xs) _ h))

  terms-folded : (xs : Expressions) → are_terms xs ≡ true → all_folded xs ≡ xs
  terms-folded none h = refl
  terms-folded (more x xs) h =
      let first = term-folded x (and-left (is_term x) _ h) in
      let rest = terms-folded xs (and-right (is_term x) _ h) in
      cc

at_most : (m n : ℕ) → nat_le m n ≡ true → m ≤ n
at_most m n h = grind (arith, nat_tests)

pub term-text-folded : (t : List ℕ) → IsTermText t → IsFoldedText t
term-text-folded t is =
    let form = and-left (is_term is.0) _ is.1 in
    (is.0, (term-atoms is.0 form, at_most _ _ (and-right (is_term is.0) _ is.1)), term-folded is.0 form, is.2)

word-no-question : (w : List ℕ) → is_word w ≡ true → w ≢ codes "?"
word-no-question [] h e = absurd cc
word-no-question (b ∷ bs) h e =
    let first : b ≡ question_mark = ap (λ t. slice_index_or t 0 0) e in
    let not_it : (b == question_mark) ≡ false = not-true _ (and-left (not (b == question_mark)) _ h) in
    grind (arith, nat_tests)

term-no-question : (x : Expression) → is_term x ≡ true → canonical x ≢ codes "?"
term-no-question (atom w) h e = word-no-question w h e
term-no-question (list xs) h e = let first : ◌≡◌ {A = ℕ} 40 63 = ap (λ t. slice_index_or t 0 0) e in omega arith

pub term-text-no-question : (t : List ℕ) → IsTermText t → t ≢ codes "?"
term-text-no-question t is e = term-no-question is.0 (and-left (is_term is.0) _ is.1) (sym is.2 ∙ e)

either : (x y : Bool) (P : Type 0) → (x ≡ true → P) → (y ≡ true → P) → (x || y) ≡ true → P
either true y P f g h = f refl
either false y P f g h = g h

mutual
  term-in : (x : Expression) (t : List ℕ) → is_term_in x t ≡ true → IsTermText t
  term-in (atom w) t h = (atom w, and-left (is_ground_term (atom w)) _ h, sym (text-sound w t (and-right (is_ground_term (atom w)) _ h)))
  term-in (list xs) t h =
      either (is_ground_term (list xs) && bytes_eq (canonical (list xs)) t) _ (IsTermText t)
      (λ here. (list xs, and-left (is_ground_term (list xs)) _ here, sym (text-sound _ t (and-right (is_ground_term (list xs)) _ here))))
      (λ inside. term-in-any xs t inside) h

  pub term-in-any : (xs : Expressions) (t : List ℕ) → is_term_in_any xs t ≡ true → IsTermText t
  term-in-any none t h = absurd cc
  term-in-any (more x xs) t h = either (is_term_in x t) _ (IsTermText t) (λ here. term-in x t here) (λ later. term-in-any xs t later) h

pub term-text-at : (xs : Expressions) (ts : List (List ℕ)) (k : ℕ) (d : List ℕ) → are_terms_in_any xs ts ≡ true → k < length ts → IsTermText (slice_index_or ts k d)
term-text-at xs [] k d h lt = absurd (omega arith)
term-text-at xs (t ∷ ts) zero d h lt = term-in-any xs t (and-left (is_term_in_any xs t) _ h)
term-text-at xs (t ∷ ts) (suc k) d h lt = term-text-at xs ts k d (and-right (is_term_in_any xs t) _ h) (omega arith)
