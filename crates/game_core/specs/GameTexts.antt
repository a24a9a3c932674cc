-- Tests for the texts of a game: texts that pass are lawful. For each test, a lemma states its meaning. If a test has no free variable,
-- `refl` proves that it passes. The proofs are in this file because the laws of a game may import only from specs.
use Rattle.std.specs.Prelude.{ℕ, ◌≡◌, ◌≢◌, ◌<◌, ◌%◌, ◌+◌, ◌^◌, ◌⊎◌, ◌==◌, ◌&&◌, ◌||◌, not, nat_lt, nat_le, bytes_eq, Bool, true, false, List, [], ◌∷◌, ◌++◌, length, map, max, All, AllPairs}
use Rattle.std.specs.List.{list_all}
use Rattle.std.specs.Fmt.{decimal}
use Rattle.std.proofs.Common.{refl, sym, ap, ◌∙◌, inl, inr, arith, append_assoc, length-append, eqb-true, eq-eqb, ltb-true, lt-ltb, leb-true, subst}
use Rattle.std.proofs.lemmas.Fmt.{decimal_by_steps}
use Rattle.std.proofs.lemmas.Bool.{and_from, and_parts}
use Rattle.std.proofs.lemmas.Bool.Decides.{nat_tests}
use Rattle.std.specs.Cmp.Lexicographic.{other_text}
use Rattle.std.proofs.lemmas.List.Elements.{All-cons, All-nil}
use Rattle.std.proofs.lemmas.List.Folds.{list_all-append}
use Rattle.std.proofs.lemmas.List.Kept.{AllPairs-cons}
use Rattle.std.proofs.lemmas.List.Sums.{AllPass-from_list_all}
use Rattle.game_core.specs.Bytes.{is_atom_byte, lower, space, left_parenthesis, right_parenthesis}
use Rattle.game_core.specs.Expression.{Expression, Expressions, atom, list, none, more, depth, depth_all, folded, all_folded, max_depth, AreAtomBytes, IsAtom, HasAtoms, AllHaveAtoms}
use Rattle.game_core.specs.Canonical.{canonical, later, IsCanonicalText, IsFoldedText}
use Rattle.game_core.specs.Texts.{IsBefore, AreInByteOrder}

-- an atom byte that is not a capital letter
abbrev pub is_folded_byte : ℕ → Bool
is_folded_byte b = is_atom_byte b && lower b == b

abbrev pub is_folded_atom : List ℕ → Bool
is_folded_atom w = nat_lt 0 (length w) && list_all is_folded_byte w

-- all atoms of an expression are in lower case
abbrev mutual
  pub has_folded_atoms : Expression → Bool
  has_folded_atoms (atom w) = is_folded_atom w
  has_folded_atoms (list xs) = have_folded_atoms xs

  pub have_folded_atoms : Expressions → Bool
  have_folded_atoms none = true
  have_folded_atoms (more x xs) = has_folded_atoms x && have_folded_atoms xs

-- the text of a list of atoms, for example `(take 1)`
abbrev pub after_atom : List (List ℕ) → List ℕ
after_atom [] = right_parenthesis ∷ []
after_atom (w ∷ ws) = space ∷ (w ++ after_atom ws)

abbrev pub list_text : List ℕ → List (List ℕ) → List ℕ
list_text w ws = left_parenthesis ∷ (w ++ after_atom ws)

-- tests whether a text comes before another
abbrev pub is_before : List ℕ → List ℕ → Bool
is_before [] [] = false
is_before [] (b ∷ bs) = true
is_before (a ∷ as') [] = false
is_before (a ∷ as') (b ∷ bs) = nat_lt a b || (a == b && is_before as' bs)

-- tests each member with each later one
abbrev pub test_pairs : {A : Type 0} → (A → A → Bool) → List A → Bool
test_pairs p [] = true
test_pairs p (x ∷ xs) = list_all (p x) xs && test_pairs p xs

-- lemmas about the test of an atom

atom_bytes : (w : List ℕ) → list_all is_folded_byte w ≡ true → AreAtomBytes w × (map lower w ≡ w)
atom_bytes [] is = (tt, refl)
atom_bytes (b ∷ bs) is =
    let both = and_parts (is_folded_byte b) (list_all is_folded_byte bs) is in
    let here = and_parts (is_atom_byte b) (lower b == b) both.0 in
    let low = eqb-true (lower b) b here.1 in
    let rest = atom_bytes bs both.1 in
    ((here.0, rest.0), cc (low, rest.1))

atom_parts : (w : List ℕ) → is_folded_atom w ≡ true → IsAtom w × (map lower w ≡ w)
atom_parts w is =
    let both = and_parts (nat_lt 0 (length w)) (list_all is_folded_byte w) is in
    let bytes = atom_bytes w both.1 in
    ((ltb-true 0 (length w) both.0, bytes.0), bytes.1)

pub is_atom : (w : List ℕ) → is_folded_atom w ≡ true → IsAtom w
is_atom w is = (atom_parts w is).0

digit_is_folded : (d : ℕ) → d < 10 → is_folded_byte (48 + d) ≡ true
digit_is_folded d small =
    let byte : is_atom_byte (48 + d) ≡ true = grind (arith, nat_tests) in
    let low : lower (48 + d) ≡ 48 + d = grind (arith, nat_tests) in
    and_from (is_atom_byte (48 + d)) (lower (48 + d) == 48 + d) byte (eq-eqb _ _ low)

one_digit : (d : ℕ) → d < 10 → is_folded_atom ((48 + d) ∷ []) ≡ true
one_digit d small = and_from (is_folded_byte (48 + d)) true (digit_is_folded d small) refl

one_digit_more : (ds : List ℕ) (d : ℕ) → d < 10 → is_folded_atom ds ≡ true → is_folded_atom (ds ++ (48 + d) ∷ []) ≡ true
one_digit_more ds d small front =
    let digits = (and_parts (nat_lt 0 (length ds)) (list_all is_folded_byte ds) front).1 in
    let some : 0 < length (ds ++ (48 + d) ∷ []) = simp length-append (omega arith) in
    let whole = list_all-append is_folded_byte ds ((48 + d) ∷ []) ∙ and_from (list_all is_folded_byte ds) (is_folded_byte (48 + d) && true) digits (one_digit d small) in
    and_from _ _ (lt-ltb 0 _ some) whole

-- the text of a number passes the test of an atom
pub number_is_folded : (n : ℕ) → n < 2 ^ 64 → is_folded_atom (decimal n) ≡ true
number_is_folded n small = decimal_by_steps (λ _ ds. is_folded_atom ds ≡ true) one_digit (λ m ds some front. one_digit_more ds (m % 10) (omega arith) front) n small

mutual
  atoms_are_folded : (x : Expression) → has_folded_atoms x ≡ true → HasAtoms x × (folded x ≡ x)
  atoms_are_folded (atom w) is = let parts = atom_parts w is in (parts.0, ap atom parts.1)
  atoms_are_folded (list xs) is = let parts = all_are_folded xs is in (parts.0, ap list parts.1)

  all_are_folded : (xs : Expressions) → have_folded_atoms xs ≡ true → AllHaveAtoms xs × (all_folded xs ≡ xs)
  all_are_folded none is = (tt, refl)
  all_are_folded (more x xs) is =
      let both = and_parts (has_folded_atoms x) (have_folded_atoms xs) is in
      let here = atoms_are_folded x both.0 in
      let rest = all_are_folded xs both.1 in
      ((here.0, rest.0), cc (here.1, rest.1))

-- lemmas about the tests of an expression, of an atom, and of a list of atoms

pub expression_is_folded : (x : Expression) → (nat_le (depth x) max_depth && has_folded_atoms x) ≡ true → IsFoldedText (canonical x)
expression_is_folded x is =
    let both = and_parts (nat_le (depth x) max_depth) (has_folded_atoms x) is in
    let atoms = atoms_are_folded x both.1 in
    (x, (atoms.0, leb-true (depth x) max_depth both.0), atoms.1, refl)

pub atom_is_folded : (w : List ℕ) → is_folded_atom w ≡ true → IsFoldedText w
atom_is_folded w is = expression_is_folded (atom w) is

abbrev atoms_of : List (List ℕ) → Expressions
atoms_of [] = none
atoms_of (w ∷ ws) = more (atom w) (atoms_of ws)

have_atoms : (ws : List (List ℕ)) → list_all is_folded_atom ws ≡ true → have_folded_atoms (atoms_of ws) ≡ true
have_atoms [] is = refl
have_atoms (w ∷ ws) is =
    let both = and_parts (is_folded_atom w) (list_all is_folded_atom ws) is in
    and_from (is_folded_atom w) (have_folded_atoms (atoms_of ws)) both.0 (have_atoms ws both.1)

no_depth : (ws : List (List ℕ)) → depth_all (atoms_of ws) ≡ 0
no_depth [] = refl
no_depth (w ∷ ws) = ap (max 0) (no_depth ws)

after_text : (ws : List (List ℕ)) → later (atoms_of ws) ++ right_parenthesis ∷ [] ≡ after_atom ws
after_text [] = refl
after_text (w ∷ ws) = ap (λ t. space ∷ t) (append_assoc w (later (atoms_of ws)) (right_parenthesis ∷ []) ∙ ap (λ t. w ++ t) (after_text ws))

pub list_is_folded : (w : List ℕ) (ws : List (List ℕ)) → list_all is_folded_atom (w ∷ ws) ≡ true → IsFoldedText (list_text w ws)
list_is_folded w ws is =
    let whole : canonical (list (atoms_of (w ∷ ws))) ≡ list_text w ws = ap (λ t. left_parenthesis ∷ t) (append_assoc w (later (atoms_of ws)) (right_parenthesis ∷ []) ∙ ap (λ t. w ++ t) (after_text ws)) in
    let shallow : nat_le (depth (list (atoms_of (w ∷ ws)))) max_depth ≡ true = rw (no_depth ws) refl in
    subst IsFoldedText whole (expression_is_folded (list (atoms_of (w ∷ ws))) (and_from _ _ shallow (have_atoms (w ∷ ws) is)))

abbrev pub AreFoldedTexts : List (List ℕ) → Type 0
AreFoldedTexts [] = Unit {0}
AreFoldedTexts (t ∷ ts) = IsFoldedText t × AreFoldedTexts ts

pub texts_are_canonical : (texts : List (List ℕ)) → AreFoldedTexts texts → All IsCanonicalText texts
texts_are_canonical [] folded = All-nil IsCanonicalText
texts_are_canonical (t ∷ ts) folded = let here = folded.0 in All-cons IsCanonicalText t ts (here.0, here.1, here.3) (texts_are_canonical ts folded.1)

-- lemmas about the test of pairs: the texts are in order, or the members have different texts

passed : {A : Type 0} (p : A → Bool) (P : A → Type 0) → ((x : A) → p x ≡ true → P x) → (xs : List A) → list_all p xs ≡ true → All P xs
passed p P shows xs is k d within = shows _ (AllPass-from_list_all p xs is k d within)

pairs_passed : {A : Type 0} (p : A → A → Bool) (R : A → A → Type 0) → ((x y : A) → p x y ≡ true → R x y) → (xs : List A) → test_pairs p xs ≡ true → AllPairs R xs
pairs_passed p R shows [] is = λ i j d before within. absurd (omega arith)
pairs_passed p R shows (x ∷ xs) is =
    let both = and_parts (list_all (p x) xs) (test_pairs p xs) is in
    AllPairs-cons R x xs (passed (p x) (R x) (shows x) xs both.0) (pairs_passed p R shows xs both.1)

either_before : (a b : ℕ) (rest : Bool) (P : Type 0) → (rest ≡ true → P) → (nat_lt a b || (a == b && rest)) ≡ true → (a < b) ⊎ ((a ≡ b) × P)
either_before a b rest P shows is = by (nat_lt a b) refl is
  where
    by : (lower : Bool) → nat_lt a b ≡ lower → (lower || (a == b && rest)) ≡ true → (a < b) ⊎ ((a ≡ b) × P)
    by true less _ = inl (ltb-true a b less)
    by false _ same = let both = and_parts (a == b) rest same in inr (eqb-true a b both.0, shows both.1)

comes_before : (s t : List ℕ) → is_before s t ≡ true → IsBefore s t
comes_before [] [] is = absurd cc
comes_before [] (b ∷ bs) is = tt
comes_before (a ∷ as') [] is = absurd cc
comes_before (a ∷ as') (b ∷ bs) is = either_before a b (is_before as' bs) (IsBefore as' bs) (comes_before as' bs) is

pub in_byte_order : (texts : List (List ℕ)) → test_pairs is_before texts ≡ true → AreInByteOrder texts
in_byte_order texts is = pairs_passed is_before IsBefore comes_before texts is

is_other : (same : Bool) → not same ≡ true → false ≡ same
is_other true is = is
is_other false is = refl

pub texts_differ : (s t : List ℕ) → not (bytes_eq s t) ≡ true → s ≢ t
texts_differ s t is = other_text s t (is_other (bytes_eq s t) is)

pub members_differ : {A : Type 0} (text : A → List ℕ) (xs : List A) → test_pairs (λ x y. not (bytes_eq (text x) (text y))) xs ≡ true → AllPairs (λ x y. x ≢ y) xs
members_differ text xs is = pairs_passed (λ x y. not (bytes_eq (text x) (text y))) (λ x y. x ≢ y) (λ x y other same. texts_differ (text x) (text y) other (ap text same)) xs is

pub one_for_each_text : {A : Type 0} (text : A → List ℕ) (owner : List ℕ → A) → (x y : A) → owner (text x) ≡ x → owner (text y) ≡ y → text x ≡ text y → x ≡ y
one_for_each_text text owner x y of_x of_y same = sym of_x ∙ (ap owner same ∙ of_y)
