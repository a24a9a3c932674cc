-- The tables of a loaded game pass the tests that imply the laws of the game.
use Rattle.std.proofs.Common.{◌≡◌, ℕ, ◌+◌, ◌<◌, ◌≤◌, Bool, true, false, if◌then◌else◌, nat_eq, nat_le, bytes_eq, List, [], ◌∷◌, ◌++◌, length, map, Option, Some, None, refl, sym, ap, ◌∙◌, arith}
use Rattle.std.proofs.lemmas.Bool.{false_from_ne_true, or_from}
use Rattle.std.proofs.lemmas.Bool.Decides.{nat_tests, Decides-ltb}
use Rattle.game_core.specs.Play.{max_goal}
use Rattle.game_core.specs.Expression.{Expressions}
use Rattle.rule_sentences.specs.declared.sentence.Derived.{Derived}
use Rattle.rule_sentences.specs.declared.sentence.Derived.TheVariants.{Role, Init, Next, Legal, Goal, Terminal, Other}
use Rattle.ground_rules.specs.declared.names.TermKind.{TermKind}
use Rattle.ground_rules.specs.declared.names.TermKind.TheVariants.{State, Move}
use Rattle.ground_rules.specs.declared.tables.GoalHead.{GoalHead}
use Rattle.ground_rules.specs.Lawfulness.Bools.{and-both, or-elim, or-left, or-right, not-false}
use Rattle.ground_rules.specs.Lawfulness.Names.{number-sound, text-same, text-sound}
use Rattle.ground_rules.specs.Lawfulness.TermTexts.{is_term_in_any, are_terms_in_any}
use Rattle.rule_sentences.specs.Descriptions.{Description, is_among, role_names, name_in}
use Rattle.ground_rules.specs.Lawfulness.TableTests.{has_term, have_distinct_terms, are_goals, are_roles}
use Rattle.ground_rules.specs.Internal.Resolved.{NameTable, atom_number, goal_heads, role_table, terms_in, head_terms, with_mention, mentions_by, place}
use Rattle.ground_rules.proofs.TablePlaces.{place-one}
use Rattle.ground_rules.proofs.Situations.{text-decides}
use Rattle.ground_rules.proofs.Mentions.{StandFrom, IsPick, AreIn, texts_by, with_text, legal_pick, legal-picks, legal-mentions}
use Rattle.ground_rules.proofs.GameOf.{EachIs}

no-term : (names : NameTable) (pick : Derived → Option (List ℕ)) (make : List ℕ → Derived) (terms : List (List ℕ)) (t : List ℕ) (m n : ℕ) (hs : List Derived) → IsPick pick make → m < n → StandFrom names n hs → place bytes_eq terms t < length terms → atom_number names (make t) ≡ m
    → has_term (place bytes_eq terms t) (mentions_by pick terms n hs) ≡ false
no-term names pick make terms t m n [] is lt stand within at = refl
no-term names pick make terms t m n (a ∷ as') is lt stand within at = by-pick (pick a) refl (no-term names pick make terms t m (n + 1) as' is (omega (arith, lt)) stand.1 within at)
  where
    by-pick : (o : Option (List ℕ)) → pick a ≡ o → has_term (place bytes_eq terms t) (mentions_by pick terms (n + 1) as') ≡ false → has_term (place bytes_eq terms t) (with_mention terms n o (mentions_by pick terms (n + 1) as')) ≡ false
    by-pick None e rest = rest
    by-pick (Some s) e rest = or_from _ _ (false_from_ne_true (nat_eq (place bytes_eq terms t) (place bytes_eq terms s)) (λ h.
        let same = place-one bytes_eq text-decides terms t s within (number-sound _ _ h) in
        let f = ap (λ x. atom_number names (make x)) same in
        let g = ap (atom_number names) (is.made a s e) in
        omega (arith, f, g, at, stand.0, lt))) rest

distinct-terms : (names : NameTable) (pick : Derived → Option (List ℕ)) (make : List ℕ → Derived) (terms : List (List ℕ)) (n : ℕ) (hs : List Derived) → IsPick pick make → StandFrom names n hs → AreIn terms (texts_by pick hs) → have_distinct_terms (length terms) (mentions_by pick terms n hs) ≡ true
distinct-terms names pick make terms n [] is stand inside = refl
distinct-terms names pick make terms n (a ∷ as') is stand inside = by-pick (pick a) refl inside (distinct-terms names pick make terms (n + 1) as' is stand.1)
  where
    by-pick : (o : Option (List ℕ)) → pick a ≡ o → AreIn terms (with_text o (texts_by pick as')) → (AreIn terms (texts_by pick as') → have_distinct_terms (length terms) (mentions_by pick terms (n + 1) as') ≡ true) → have_distinct_terms (length terms) (with_mention terms n o (mentions_by pick terms (n + 1) as')) ≡ true
    by-pick None e inside rest = rest inside
    by-pick (Some s) e inside rest =
        let at : atom_number names (make s) ≡ n = ap (atom_number names) (sym (is.made a s e)) ∙ stand.0 in
        and-both _ _ ((Decides-ltb (place bytes_eq terms s) (length terms)).1 inside.0)
        (and-both _ _ (not-false _ (no-term names pick make terms s n (n + 1) as' is (omega arith) stand.1 inside.0 at)) (rest inside.1))

-- the properties of a head that was read from these expressions: its term is in them, and its goal value is at most max_goal
abbrev pub HeadFrom : Expressions → Derived → Type 0
HeadFrom xs (Role r) = is_term_in_any xs r ≡ true
HeadFrom xs (Init t) = is_term_in_any xs t ≡ true
HeadFrom xs (Next t) = is_term_in_any xs t ≡ true
HeadFrom xs (Legal r m) = is_term_in_any xs m ≡ true
HeadFrom xs (Goal r n) = n ≤ max_goal
HeadFrom xs Terminal = Unit {0}
HeadFrom xs (Other t) = Unit {0}

at_most : (n : ℕ) → n ≤ max_goal → nat_le n max_goal ≡ true
at_most n le = grind (arith, nat_tests)

goals-by : (k n : ℕ) (gs : List GoalHead) (b : Bool) → k ≤ max_goal → are_goals gs ≡ true → are_goals (if b then record { value = k; atom = n } ∷ gs else gs) ≡ true
goals-by k n gs true le h = and-both _ _ (at_most k le) h
goals-by k n gs false le h = h

goals : (xs : Expressions) (role : List ℕ) (n : ℕ) (hs : List Derived) → EachIs (HeadFrom xs) hs → are_goals (goal_heads role n hs) ≡ true
goals xs role n [] h = refl
goals xs role n (Role r ∷ hs) h = goals xs role (n + 1) hs h.1
goals xs role n (Init t ∷ hs) h = goals xs role (n + 1) hs h.1
goals xs role n (Next t ∷ hs) h = goals xs role (n + 1) hs h.1
goals xs role n (Legal r m ∷ hs) h = goals xs role (n + 1) hs h.1
goals xs role n (Goal r k ∷ hs) h = goals-by k n (goal_heads role (n + 1) hs) (bytes_eq r role) h.0 (goals xs role (n + 1) hs h.1)
goals xs role n (Terminal ∷ hs) h = goals xs role (n + 1) hs h.1
goals xs role n (Other t ∷ hs) h = goals xs role (n + 1) hs h.1

pub role-tables : (xs : Expressions) (table : NameTable) (rs : List (List ℕ)) → EachIs (HeadFrom xs) table.heads → StandFrom table 0 table.heads → ((role : List ℕ) → AreIn table.moves (texts_by (legal_pick role) table.heads)) → are_roles (length table.moves) (map (role_table table) rs) ≡ true
role-tables xs table [] from stand inside = refl
role-tables xs table (r ∷ rs) from stand inside =
    and-both _ _ (ap (have_distinct_terms (length table.moves)) (legal-mentions table.moves r 0 table.heads) ∙ distinct-terms table (legal_pick r) (Legal r) table.moves 0 table.heads (legal-picks r) stand (inside r))
    (and-both _ _ (goals xs r 0 table.heads from) (role-tables xs table rs from stand inside))

-- the texts of heads that were read are texts of terms
among-by : (xs : Expressions) (ts us : List (List ℕ)) (t : List ℕ) → (is_among ts t ≡ true → is_term_in_any xs t ≡ true) → (is_among us t ≡ true → is_term_in_any xs t ≡ true) → is_among (ts ++ us) t ≡ true → is_term_in_any xs t ≡ true
among-by xs [] us t f g h = g h
among-by xs (x ∷ ts) us t f g h = or-elim (bytes_eq x t) (is_among (ts ++ us) t) _ (λ e. f (or-left _ _ e)) (λ e. among-by xs ts us t (λ k. f (or-right _ _ k)) g e) h

one-term : (xs : Expressions) (s t : List ℕ) → is_term_in_any xs s ≡ true → is_among (s ∷ []) t ≡ true → is_term_in_any xs t ≡ true
one-term xs s t is h = or-elim (bytes_eq s t) false _ (λ e. ap (is_term_in_any xs) (sym (text-sound s t e)) ∙ is) (λ e. absurd cc) h

head-term : (xs : Expressions) (kind : TermKind) (a : Derived) (t : List ℕ) → HeadFrom xs a → is_among (terms_in kind a) t ≡ true → is_term_in_any xs t ≡ true
head-term xs State (Role r) t from h = absurd cc
head-term xs State (Init s) t from h = one-term xs s t from h
head-term xs State (Next s) t from h = one-term xs s t from h
head-term xs State (Legal r m) t from h = absurd cc
head-term xs State (Goal r n) t from h = absurd cc
head-term xs State Terminal t from h = absurd cc
head-term xs State (Other s) t from h = absurd cc
head-term xs Move (Role r) t from h = absurd cc
head-term xs Move (Init s) t from h = absurd cc
head-term xs Move (Next s) t from h = absurd cc
head-term xs Move (Legal r m) t from h = one-term xs m t from h
head-term xs Move (Goal r n) t from h = absurd cc
head-term xs Move Terminal t from h = absurd cc
head-term xs Move (Other s) t from h = absurd cc

pub head-terms : (xs : Expressions) (kind : TermKind) (d : Description) (t : List ℕ) → EachIs (HeadFrom xs) (map (λ r. r.head) d) → is_among (head_terms kind d) t ≡ true → is_term_in_any xs t ≡ true
head-terms xs kind [] t from h = absurd cc
head-terms xs kind (r ∷ rs) t from h = among-by xs (terms_in kind r.head) (head_terms kind rs) t (head-term xs kind r.head t from.0) (head-terms xs kind rs t from.1) h

pub terms-spelled : (xs : Expressions) (ts : List (List ℕ)) → ((t : List ℕ) → is_among ts t ≡ true → is_term_in_any xs t ≡ true) → are_terms_in_any xs ts ≡ true
terms-spelled xs [] f = refl
terms-spelled xs (t ∷ ts) f = and-both _ _ (f t (or-left _ _ (text-same t t refl))) (terms-spelled xs ts (λ u h. f u (or-right _ _ h)))

names-by : (xs : Expressions) (a : Derived) (ns : List (List ℕ)) → HeadFrom xs a → are_terms_in_any xs ns ≡ true → are_terms_in_any xs (name_in a ++ ns) ≡ true
names-by xs (Role r) ns from h = and-both _ _ from h
names-by xs (Init s) ns from h = h
names-by xs (Next s) ns from h = h
names-by xs (Legal r m) ns from h = h
names-by xs (Goal r n) ns from h = h
names-by xs Terminal ns from h = h
names-by xs (Other s) ns from h = h

pub names-spelled : (xs : Expressions) (d : Description) → EachIs (HeadFrom xs) (map (λ r. r.head) d) → are_terms_in_any xs (role_names d) ≡ true
names-spelled xs [] from = refl
names-spelled xs (r ∷ rs) from = names-by xs r.head (role_names rs) from.0 (names-spelled xs rs from.1)
