-- The loaded game is lawful.
use Rattle.std.specs.Prelude.{ℕ, zero, suc, ◌≤◌, ◌<◌, ◌≡◌, ◌≢◌, ◌⊎◌, Bool, true, false, not, ◌&&◌, ◌||◌, if◌then◌else◌, List, [], ◌∷◌, length, bytes_eq, IsTrue, refl, AllPairs, Some, slice_index_or, slice_set, nat_eq, nat_lt, nat_le, filter, map}
use Rattle.std.proofs.Common.{arith, ap, sym, ◌∙◌, length-set, inl, inr}
use Rattle.std.proofs.lemmas.List.{length-replicate}
use Rattle.std.proofs.lemmas.Bool.Decides.{nat_tests, Decides-eqb, Decides-ltb}
use Rattle.game_core.specs.Play.{IsLawful, max_roles, max_goal}
use Rattle.game_core.specs.Texts.{IsBefore, AreInByteOrder}
use Rattle.game_core.specs.Canonical.{IsCanonicalText, IsFoldedText}
use Rattle.game_core.specs.Expression.{Expressions}
use Rattle.ground_rules.specs.declared.tables.Mention.{Mention}
use Rattle.ground_rules.specs.declared.tables.GoalHead.{GoalHead}
use Rattle.ground_rules.specs.declared.state.GroundMove.{GroundMove}
use Rattle.ground_rules.specs.Lawfulness.Bools.{and-left, and-right, and-both, not-true, or-left, or-right, or-false-left, or-false-right}
use Rattle.ground_rules.specs.Lawfulness.Names.{text-sound, text-same}
use Rattle.rule_sentences.specs.Descriptions.{is_among, are_different}
use Rattle.ground_rules.specs.Roles.{RoleTable, no_role}
use Rattle.numbered_rules.specs.Numbered.{bit, unset}
use Rattle.ground_rules.specs.Lookups.{marked, chosen, only, picked}
use Rattle.ground_rules.specs.Lawfulness.TableTests.{are_roles, names, has_term, have_distinct_terms, are_goals, comes_before, comes_before_all, are_in_order}
use Rattle.ground_rules.specs.Lawfulness.TermTexts.{are_terms_in_any}
use Rattle.ground_rules.specs.Lawfulness.TermTexts.{IsTermText, term-text-folded, term-text-no-question, term-text-at}
use Rattle.ground_rules.specs.LoadedGame.{GameTables, loaded_game, role_at, settled, turn_row, terms_of}

set-length : (row : List Bool) (i : ℕ) (test : Bool) → length (if test then slice_set row i true else row) ≡ length row
set-length row i true = length-set row i true
set-length row i false = refl

marked-length : (marks row : List Bool) (ms : List Mention) → length (marked marks row ms) ≡ length marks
marked-length marks row [] = refl
marked-length marks row (m ∷ ms) = marked-length (if bit row m.atom then slice_set marks m.term true else marks) row ms ∙ set-length marks m.term (bit row m.atom)

pub marked-size : (n : ℕ) (row : List Bool) (ms : List Mention) → length (marked (unset n) row ms) ≡ n
marked-size n row ms = marked-length (unset n) row ms ∙ length-replicate n false

-- the tables of each role pass the tests
role-legal : (terms : ℕ) (rs : List RoleTable) (r : ℕ) → are_roles terms rs ≡ true → have_distinct_terms terms (slice_index_or rs r no_role).legal ≡ true
role-legal terms [] r h = refl
role-legal terms (x ∷ rs) zero h = and-left (have_distinct_terms terms x.legal) _ h
role-legal terms (x ∷ rs) (suc r) h = role-legal terms rs r (and-right (are_goals x.goals) _ (and-right (have_distinct_terms terms x.legal) _ h))

role-goals : (terms : ℕ) (rs : List RoleTable) (r : ℕ) → are_roles terms rs ≡ true → are_goals (slice_index_or rs r no_role).goals ≡ true
role-goals terms [] r h = refl
role-goals terms (x ∷ rs) zero h = and-left (are_goals x.goals) _ (and-right (have_distinct_terms terms x.legal) _ h)
role-goals terms (x ∷ rs) (suc r) h = role-goals terms rs r (and-right (are_goals x.goals) _ (and-right (have_distinct_terms terms x.legal) _ h))

abbrev moves_of : List Mention → List GroundMove
moves_of hs = map (λ h. record { term = h.term }) hs

below : (m n : ℕ) → nat_lt m n ≡ true → m < n
below m n h = (Decides-ltb m n).0 h

-- the chosen moves belong to the game
are-by : (terms : ℕ) (m : Mention) (fs : List Mention) (b : Bool) → m.term < terms → ((k : ℕ) (d : GroundMove) → k < length (moves_of fs) → (slice_index_or (moves_of fs) k d).term < terms) → (k : ℕ) (d : GroundMove) → k < length (moves_of (if b then m ∷ fs else fs)) → (slice_index_or (moves_of (if b then m ∷ fs else fs)) k d).term < terms
are-by terms m fs false ok rest k d lt = rest k d lt
are-by terms m fs true ok rest zero d lt = ok
are-by terms m fs true ok rest (suc k) d lt = rest k d (omega (arith, lt))

chosen-are : (terms : ℕ) (row : List Bool) (hs : List Mention) → have_distinct_terms terms hs ≡ true → (k : ℕ) (d : GroundMove) → k < length (chosen row hs) → (slice_index_or (chosen row hs) k d).term < terms
chosen-are terms row [] h k d lt = absurd (omega (arith, lt))
chosen-are terms row (m ∷ hs) h k d lt =
    let tail = and-right (nat_lt m.term terms) _ h in
    are-by terms m (filter (λ x. bit row x.atom) hs) (bit row m.atom) (below _ _ (and-left (nat_lt m.term terms) _ h)) (chosen-are terms row hs (and-right (not (has_term m.term hs)) _ tail)) k d lt

-- a term that no head has is not chosen
avoid-by : (t : ℕ) (m : Mention) (fs : List Mention) (b : Bool) → t ≢ m.term → ((k : ℕ) (d : GroundMove) → k < length (moves_of fs) → t ≢ (slice_index_or (moves_of fs) k d).term) → (k : ℕ) (d : GroundMove) → k < length (moves_of (if b then m ∷ fs else fs)) → t ≢ (slice_index_or (moves_of (if b then m ∷ fs else fs)) k d).term
avoid-by t m fs false ne rest k d lt = rest k d lt
avoid-by t m fs true ne rest zero d lt = ne
avoid-by t m fs true ne rest (suc k) d lt = rest k d (omega (arith, lt))

not-equal : (x y : ℕ) → nat_eq x y ≡ false → x ≢ y
not-equal x y h e = let f = (Decides-eqb x y).1 e in cc

chosen-avoid : (t : ℕ) (row : List Bool) (hs : List Mention) → has_term t hs ≡ false → (k : ℕ) (d : GroundMove) → k < length (chosen row hs) → t ≢ (slice_index_or (chosen row hs) k d).term
chosen-avoid t row [] h k d lt = absurd (omega (arith, lt))
chosen-avoid t row (m ∷ hs) h k d lt = avoid-by t m (filter (λ x. bit row x.atom) hs) (bit row m.atom) (not-equal t m.term (or-false-left _ _ h)) (chosen-avoid t row hs (or-false-right _ _ h)) k d lt

differ-by : (m : Mention) (fs : List Mention) (b : Bool) → ((k : ℕ) (d : GroundMove) → k < length (moves_of fs) → m.term ≢ (slice_index_or (moves_of fs) k d).term) → AllPairs (λ (x y : GroundMove). x ≢ y) (moves_of fs) → AllPairs (λ (x y : GroundMove). x ≢ y) (moves_of (if b then m ∷ fs else fs))
differ-by m fs false avoid rest i j d before within e = rest i j d before within e
differ-by m fs true avoid rest zero zero d before within e = omega (arith, before)
differ-by m fs true avoid rest zero (suc j) d before within e = avoid j d (omega (arith, within)) (ap (λ (c : GroundMove). c.term) e)
differ-by m fs true avoid rest (suc i) zero d before within e = omega (arith, before)
differ-by m fs true avoid rest (suc i) (suc j) d before within e = rest i j d (omega (arith, before)) (omega (arith, within)) e

chosen-differ : (terms : ℕ) (row : List Bool) (hs : List Mention) → have_distinct_terms terms hs ≡ true → AllPairs (λ (x y : GroundMove). x ≢ y) (chosen row hs)
chosen-differ terms row [] h i j d before within e = omega (arith, within)
chosen-differ terms row (m ∷ hs) h i j d before within e =
    let tail = and-right (nat_lt m.term terms) _ h in
    differ-by m (filter (λ x. bit row x.atom) hs) (bit row m.atom) (chosen-avoid m.term row hs (not-true _ (and-left (not (has_term m.term hs)) _ tail))) (chosen-differ terms row hs (and-right (not (has_term m.term hs)) _ tail)) i j d before within e

at_most_goal : (n : ℕ) → nat_le n max_goal ≡ true → n ≤ max_goal
at_most_goal n h = grind (arith, nat_tests)

goals-by : (h : GoalHead) (fs : List GoalHead) (b : Bool) (v : ℕ) → nat_le h.value max_goal ≡ true → (only fs ≡ Some v → v ≤ max_goal) → only (if b then h ∷ fs else fs) ≡ Some v → v ≤ max_goal
goals-by h fs false v ok rest e = rest e
goals-by h [] true v ok rest e = let f : h.value ≡ v = cc in let g = at_most_goal h.value ok in omega (arith, f, g)
goals-by h (k ∷ ks) true v ok rest e = absurd cc

goals-only : (hs : List GoalHead) (row : List Bool) (v : ℕ) → are_goals hs ≡ true → only (filter (λ h. bit row h.atom) hs) ≡ Some v → v ≤ max_goal
goals-only [] row v h is = absurd cc
goals-only (x ∷ hs) row v h is = goals-by x (filter (λ h. bit row h.atom) hs) (bit row x.atom) v (and-left (nat_le x.value max_goal) _ h) (goals-only hs row v (and-right (nat_le x.value max_goal) _ h)) is

pub among-at : (xs : List (List ℕ)) (j : ℕ) → j < length xs → is_among xs (slice_index_or xs j []) ≡ true
among-at [] j lt = absurd (omega (arith, lt))
among-at (x ∷ xs) zero lt = or-left _ _ (text-same x x refl)
among-at (x ∷ xs) (suc j) lt = or-right _ _ (among-at xs j (omega (arith, lt)))

-- in a list of different texts, equal texts have the same index
pub one-place : (xs : List (List ℕ)) (i j : ℕ) → are_different xs ≡ true → i < length xs → j < length xs → slice_index_or xs i [] ≡ slice_index_or xs j [] → i ≡ j
one-place [] i j h li lj e = absurd (omega (arith, li))
one-place (x ∷ xs) zero zero h li lj e = refl
one-place (x ∷ xs) zero (suc j) h li lj e = let f = ap (λ t. is_among xs t) e ∙ among-at xs j (omega (arith, lj)) in let g = not-true (is_among xs x) (and-left _ (are_different xs) h) in absurd cc
one-place (x ∷ xs) (suc i) zero h li lj e = let f = ap (λ t. is_among xs t) (sym e) ∙ among-at xs i (omega (arith, li)) in let g = not-true (is_among xs x) (and-left _ (are_different xs) h) in absurd cc
one-place (x ∷ xs) (suc i) (suc j) h li lj e = ap suc (one-place xs i j (and-right (not (is_among xs x)) _ h) (omega (arith, li)) (omega (arith, lj)) e)

same-move : (m n : GroundMove) → m.term ≡ n.term → m ≡ n
same-move m n e = let f : ℕ → GroundMove = λ t. record { term = t } in ap f e

name-at : (rs : List RoleTable) (r : ℕ) → r < length rs → (slice_index_or rs r no_role).name ≡ slice_index_or (names rs) r []
name-at [] r lt = absurd (omega (arith, lt))
name-at (x ∷ rs) zero lt = refl
name-at (x ∷ rs) (suc r) lt = name-at rs r (omega (arith, lt))

names-length : (rs : List RoleTable) → length (names rs) ≡ length rs
names-length [] = refl
names-length (x ∷ rs) = ap suc (names-length rs)

before-by : (a b : ℕ) (as' bs : List ℕ) (lt : Bool) → nat_lt a b ≡ lt → (comes_before as' bs ≡ true → IsBefore as' bs) → (lt || (nat_eq a b && comes_before as' bs)) ≡ true → (a < b) ⊎ ((a ≡ b) × IsBefore as' bs)
before-by a b as' bs true is rest h = inl (below a b is)
before-by a b as' bs false is rest h = inr ((Decides-eqb a b).0 (and-left (nat_eq a b) _ h), rest (and-right (nat_eq a b) _ h))

-- the test of byte order is correct
before : (t u : List ℕ) → comes_before t u ≡ true → IsBefore t u
before [] [] h = absurd cc
before [] (b ∷ bs) h = tt
before (a ∷ as') [] h = absurd cc
before (a ∷ as') (b ∷ bs) h = before-by a b as' bs (nat_lt a b) refl (before as' bs) h

all-before : (t : List ℕ) (us : List (List ℕ)) (j : ℕ) (d : List ℕ) → comes_before_all t us ≡ true → j < length us → IsBefore t (slice_index_or us j d)
all-before t [] j d h lt = absurd (omega (arith, lt))
all-before t (u ∷ us) zero d h lt = before t u (and-left (comes_before t u) _ h)
all-before t (u ∷ us) (suc j) d h lt = all-before t us j d (and-right (comes_before t u) _ h) (omega (arith, lt))

ordered : (ts : List (List ℕ)) → are_in_order ts ≡ true → AreInByteOrder ts
ordered [] h i j d lt within = absurd (omega (arith, within))
ordered (t ∷ ts) h zero zero d lt within = absurd (omega (arith, lt))
ordered (t ∷ ts) h zero (suc j) d lt within = all-before t ts j d (and-left (comes_before_all t ts) _ h) (omega (arith, within))
ordered (t ∷ ts) h (suc i) zero d lt within = absurd (omega (arith, lt))
ordered (t ∷ ts) h (suc i) (suc j) d lt within = ordered ts (and-right (comes_before_all t ts) _ h) i j d (omega (arith, lt)) (omega (arith, within))

-- a part of an ordered list is ordered
picked-after : (t : List ℕ) (row : List Bool) (ts : List (List ℕ)) → comes_before_all t ts ≡ true → comes_before_all t (picked row ts) ≡ true
picked-after t [] ts h = refl
picked-after t (b ∷ bs) [] h = refl
picked-after t (true ∷ bs) (u ∷ us) h = and-both (comes_before t u) _ (and-left (comes_before t u) _ h) (picked-after t bs us (and-right (comes_before t u) _ h))
picked-after t (false ∷ bs) (u ∷ us) h = picked-after t bs us (and-right (comes_before t u) _ h)

picked-ordered : (row : List Bool) (ts : List (List ℕ)) → are_in_order ts ≡ true → are_in_order (picked row ts) ≡ true
picked-ordered [] ts h = refl
picked-ordered (b ∷ bs) [] h = refl
picked-ordered (true ∷ bs) (u ∷ us) h = and-both (comes_before_all u (picked bs us)) _ (picked-after u bs us (and-left (comes_before_all u us) _ h)) (picked-ordered bs us (and-right (comes_before_all u us) _ h))
picked-ordered (false ∷ bs) (u ∷ us) h = picked-ordered bs us (and-right (comes_before_all u us) _ h)

picked-texts : (row : List Bool) (ts : List (List ℕ)) → ((k : ℕ) (d : List ℕ) → k < length ts → IsTermText (slice_index_or ts k d)) → (k : ℕ) (d : List ℕ) → k < length (picked row ts) → IsTermText (slice_index_or (picked row ts) k d)
picked-texts [] ts each k d lt = absurd (omega (arith, lt))
picked-texts (b ∷ bs) [] each k d lt = absurd (omega (arith, lt))
picked-texts (true ∷ bs) (u ∷ us) each zero d lt = each 0 d (omega arith)
picked-texts (true ∷ bs) (u ∷ us) each (suc k) d lt = picked-texts bs us (λ j e within. each (suc j) e (omega (arith, within))) k d (omega (arith, lt))
picked-texts (false ∷ bs) (u ∷ us) each k d lt = picked-texts bs us (λ j e within. each (suc j) e (omega (arith, within))) k d lt

-- ordered texts are different
order-differs : (t : List ℕ) (ts : List (List ℕ)) → comes_before_all t ts ≡ true → is_among ts t ≡ false
order-differs t [] h = refl
order-differs t (u ∷ us) h = neither (and-left (comes_before t u) _ h) (order-differs t us (and-right (comes_before t u) _ h))
  where
    not-before-itself : (t : List ℕ) → comes_before t t ≡ false
    not-before-itself [] = refl
    not-before-itself (a ∷ as') = let rest = not-before-itself as' in grind (arith, nat_tests)

    different : (t u : List ℕ) (b : Bool) → comes_before t u ≡ true → bytes_eq u t ≡ b → b ≡ false
    different t u true h e = let same = text-sound u t e in let f = ap (λ x. comes_before t x) same in let g = not-before-itself t in absurd cc
    different t u false h e = refl

    neither : comes_before t u ≡ true → is_among us t ≡ false → is_among (u ∷ us) t ≡ false
    neither here rest = rw (different t u _ here refl) rest

pub ordered-different : (ts : List (List ℕ)) → are_in_order ts ≡ true → are_different ts ≡ true
ordered-different [] h = refl
ordered-different (t ∷ ts) h = rw (order-differs t ts (and-left (comes_before_all t ts) _ h)) (ordered-different ts (and-right (comes_before_all t ts) _ h))

folded-is-canonical : (t : List ℕ) → IsFoldedText t → IsCanonicalText t
folded-is-canonical t is = (is.0, is.1, is.3)

-- the lemma that shows that each form of a game is lawful; `xs` are the sentences of the description
pub loaded_game_laws : (xs : Expressions) (g : GameTables) → 1 ≤ length g.roles → length g.roles ≤ max_roles → IsTrue (are_roles (length g.moves) g.roles) → IsTrue (are_different (names g.roles))
    → IsTrue (are_terms_in_any xs (names g.roles)) → IsTrue (are_in_order g.states) → IsTrue (are_terms_in_any xs g.states) → IsTrue (are_in_order g.moves) → IsTrue (are_terms_in_any xs g.moves) → IsLawful (loaded_game g)
loaded_game_laws xs g some few tables names_differ names_spelled states_ordered states_spelled moves_ordered moves_spelled = record {
  some_role = some;
  few_roles = few;
  role_names_folded = λ r within. rw (name-at g.roles r within) (term-text-folded (slice_index_or (names g.roles) r []) (term-text-at xs (names g.roles) r [] names_spelled (omega (arith, names-length g.roles, within))));
  role_names_differ = λ q r low high e. one-place (names g.roles) q r names_differ (omega (arith, names-length g.roles, low)) (omega (arith, names-length g.roles, high)) (sym (name-at g.roles q low) ∙ (e ∙ name-at g.roles r high));
  initial_is_state = record { size = marked-size (length g.states) (turn_row g (settled g (unset (length g.states))) []) g.init; kept = refl };
  next_is_state = λ s joint is lawful. record { size = marked-size (length g.states) (turn_row g s (terms_of joint)) g.next; kept = refl };
  legal_are_moves = λ s r is within. chosen-are (length g.moves) _ (role_at g r).legal (role-legal _ g.roles r tables);
  legal_differ = λ s r is within. chosen-differ (length g.moves) _ (role_at g r).legal (role-legal _ g.roles r tables);
  move_texts_folded = λ m is. term-text-folded (slice_index_or g.moves m.term []) (term-text-at xs g.moves m.term [] moves_spelled is);
  one_move_for_each_text = λ m n im in' e. same-move m n (one-place g.moves m.term n.term (ordered-different g.moves moves_ordered) im in' e);
  no_question = λ m is. term-text-no-question (slice_index_or g.moves m.term []) (term-text-at xs g.moves m.term [] moves_spelled is);
  state_texts_canonical = λ s is k d lt. folded-is-canonical (slice_index_or (picked s.row g.states) k d) (term-text-folded (slice_index_or (picked s.row g.states) k d) (picked-texts s.row g.states (λ j e within. term-text-at xs g.states j e states_spelled within) k d lt));
  state_texts_ordered = λ s is. ordered (picked s.row g.states) (picked-ordered s.row g.states states_ordered);
  goal_in_range = λ s r v is within e. goals-only (role_at g r).goals _ v (role-goals _ g.roles r tables) e;
}
