-- The rows of dependence are set for the heads that depend on the state or on the moves.
use Rattle.std.proofs.Common.{◌≡◌, ℕ, zero, suc, ◌+◌, ◌<◌, ◌⊎◌, inl, inr, Bool, true, false, not, ◌&&◌, ◌||◌, nat_eq, bytes_eq, List, [], ◌∷◌, length, refl, sym, ap, ◌∙◌, arith, subst}
use mathlib.Core.Bool.{and-true}
use Rattle.std.specs.List.{list_any}
use Rattle.std.specs.List.Sorted.{IsPermutation}
use Rattle.std.proofs.lemmas.List.Sorted.{IsPermutation-map}
use Rattle.rule_sentences.specs.declared.sentence.Derived.{Derived}
use Rattle.rule_sentences.specs.declared.sentence.Derived.TheVariants.{Role, Init, Next, Legal, Goal, Terminal, Other}
use Rattle.ground_rules.specs.Lawfulness.Bools.{and-left, and-right, and-both, or-left, or-right}
use Rattle.ground_rules.specs.Lawfulness.Names.{number-sound, number-same, derived-sound}
use Rattle.numbered_rules.specs.Literals.{Literal, Literals, Holds, InState, Does, Distinct, Not, Or, End, More, Rule, AtomsAre, AllAtomsAre}
use Rattle.rule_sentences.specs.Sentences.{TextLiteral, TextLiterals, TextRule}
use Rattle.numbered_rules.specs.Fit.{truth, any_true, derived, Fits}
use Rattle.ground_rules.specs.Acyclic.{IsNumbering, IsAcyclic}
use Rattle.rule_sentences.specs.Descriptions.{Description, same_derived}
use Rattle.ground_rules.specs.Dependence.{speaks_of_given, any_speaks_of_given, SpeaksOf, AnySpeaksOf, IsRuleOf, DependsOnGiven, at_once, through, IsBarred, HasBarredHead}
use Rattle.numbered_rules.specs.Numbered.{known, bit, numbered, row_after, unset}
use Rattle.ground_rules.specs.Internal.Ranked.{AreRankedFrom}
use Rattle.numbered_rules.specs.Exposed.{exposed, all_exposed, exposed_rule, exposed_rules}
use Rattle.ground_rules.specs.Internal.Resolved.{NameTable, atom_number, resolved, all_resolved, resolved_rules}
use Rattle.ground_rules.specs.Internal.Barred.{barred_by, has_barred}
use Rattle.ground_rules.proofs.Pass.{pass-fits}
use Rattle.ground_rules.proofs.TablePlaces.{place-one}
use Rattle.ground_rules.proofs.Transfer.{HaveHeads, derived-decides, derived-permuted}
use Rattle.ground_rules.proofs.Mentions.{StandFrom}
use Rattle.ground_rules.proofs.GameOf.{within-any, past}

known-atoms : (P : ℕ → Type 0) (b : Bool) → AtomsAre {T = ℕ} P (known b)
known-atoms P true = tt
known-atoms P false = tt

mutual
  exposed-atoms : (P : ℕ → Type 0) (of_state : Bool) (l : Literal ℕ ℕ) → AtomsAre P l → AtomsAre P (exposed of_state l)
  exposed-atoms P of_state (Holds a) h = h
  exposed-atoms P of_state (InState t) h = known-atoms P of_state
  exposed-atoms P of_state (Does r m) h = tt
  exposed-atoms P of_state (Distinct t u) h = tt
  exposed-atoms P of_state (Not l) h = exposed-atoms P of_state l h
  exposed-atoms P of_state (Or ls) h = all-exposed-atoms P of_state ls h

  all-exposed-atoms : (P : ℕ → Type 0) (of_state : Bool) (ls : Literals ℕ ℕ) → AllAtomsAre P ls → AllAtomsAre P (all_exposed of_state ls)
  all-exposed-atoms P of_state End h = tt
  all-exposed-atoms P of_state (More l ls) h = (exposed-atoms P of_state l h.0, all-exposed-atoms P of_state ls h.1)

pub exposed-ranked : (rank : ℕ → ℕ) (low atoms : ℕ) (of_state : Bool) (rs : List (Rule ℕ ℕ)) → AreRankedFrom rank low atoms rs → AreRankedFrom rank low atoms (exposed_rules of_state rs)
exposed-ranked rank low atoms of_state [] h = tt
exposed-ranked rank low atoms of_state (r ∷ rs) h = (h.0, h.1, (all-exposed-atoms (λ a. rank a < rank r.head) of_state r.body h.2, tt), exposed-ranked rank (rank r.head) atoms of_state rs h.3)

-- the equation that the row of dependence satisfies
pub record IsDependence (names : NameTable) (d : Description) (of_state : Bool) (row : ℕ → Bool) : Type 0 where
  pub equation : (n : ℕ) → row n ≡ derived (numbered [] []) row (exposed_rules of_state (resolved_rules names d)) n

pub dependence-row : (names : NameTable) (d : Description) (of_state : Bool) (rank : ℕ → ℕ) (atoms : ℕ) (rs : List (Rule ℕ ℕ)) → IsPermutation (resolved_rules names d) rs → AreRankedFrom rank 0 atoms rs → IsDependence names d of_state (bit (row_after (numbered [] []) (unset atoms) (exposed_rules of_state rs)))
dependence-row names d of_state rank atoms rs moved ranked =
    let row : ℕ → Bool = bit (row_after (numbered [] []) (unset atoms) (exposed_rules of_state rs)) in
    let fits : Fits (numbered [] []) (exposed_rules of_state rs) row = pass-fits (numbered [] []) rank atoms (exposed_rules of_state rs) (λ x y. refl) (exposed-ranked rank 0 atoms of_state rs ranked) in
    record { equation = λ n. fits n ∙ sym (derived-permuted (numbered [] []) row (exposed_rules of_state (resolved_rules names d)) (exposed_rules of_state rs) n (IsPermutation-map (exposed_rule of_state) (resolved_rules names d) rs moved)) }

known-truth : (row : ℕ → Bool) (b : Bool) → truth (numbered [] []) row (known b) ≡ b
known-truth row true = refl
known-truth row false = refl

exposed-known : (of_state : Bool) (row : ℕ → Bool) (b : Bool) → truth (numbered [] []) row (exposed of_state (known b)) ≡ false
exposed-known of_state row true = refl
exposed-known of_state row false = refl

either-true : (x y p q : Bool) → (x ≡ true → p ≡ true) → (y ≡ true → q ≡ true) → (x || y) ≡ true → (p || q) ≡ true
either-true true y p q f g h = or-left p q (f refl)
either-true false y p q f g h = or-right p q (g h)

mutual
  given-true : (names : NameTable) (of_state : Bool) (row : ℕ → Bool) (l : TextLiteral) → speaks_of_given of_state l ≡ true → truth (numbered [] []) row (exposed of_state (resolved names l)) ≡ true
  given-true names of_state row (Holds a) h = absurd cc
  given-true names of_state row (InState t) h = known-truth row of_state ∙ h
  given-true names of_state row (Does r m) h = refl
  given-true names of_state row (Distinct t u) h = absurd cc
  given-true names of_state row (Not l) h = given-true names of_state row l h
  given-true names of_state row (Or ls) h = any-given-true names of_state row ls h

  any-given-true : (names : NameTable) (of_state : Bool) (row : ℕ → Bool) (ls : TextLiterals) → any_speaks_of_given of_state ls ≡ true → any_true (numbered [] []) row (all_exposed of_state (all_resolved names ls)) ≡ true
  any-given-true names of_state row End h = absurd cc
  any-given-true names of_state row (More l ls) h = either-true (speaks_of_given of_state l) _ _ _ (given-true names of_state row l) (any-given-true names of_state row ls) h

mutual
  spoken-true : (names : NameTable) (of_state : Bool) (row : ℕ → Bool) (b : Derived) (l : TextLiteral) → row (atom_number names b) ≡ true → SpeaksOf b l → truth (numbered [] []) row (exposed of_state (resolved names l)) ≡ true
  spoken-true names of_state row b (Holds a) is h = ap (λ x. row (atom_number names x)) h ∙ is
  spoken-true names of_state row b (InState t) is h = absurd h
  spoken-true names of_state row b (Does r m) is h = absurd h
  spoken-true names of_state row b (Distinct t u) is h = absurd h
  spoken-true names of_state row b (Not l) is h = spoken-true names of_state row b l is h
  spoken-true names of_state row b (Or ls) is h = any-spoken-true names of_state row b ls is h

  any-spoken-true : (names : NameTable) (of_state : Bool) (row : ℕ → Bool) (b : Derived) (ls : TextLiterals) → row (atom_number names b) ≡ true → AnySpeaksOf b ls → any_true (numbered [] []) row (all_exposed of_state (all_resolved names ls)) ≡ true
  any-spoken-true names of_state row b End is h = absurd h
  any-spoken-true names of_state row b (More l ls) is (inl h) = or-left _ _ (spoken-true names of_state row b l is h)
  any-spoken-true names of_state row b (More l ls) is (inr h) = or-right _ _ (any-spoken-true names of_state row b ls is h)

rule-derives : (names : NameTable) (of_state : Bool) (row : ℕ → Bool) (r : TextRule) (d : Description) → IsRuleOf r d → any_true (numbered [] []) row (all_exposed of_state (all_resolved names r.body)) ≡ true → derived (numbered [] []) row (exposed_rules of_state (resolved_rules names d)) (atom_number names r.head) ≡ true
rule-derives names of_state row r [] h is = absurd h
rule-derives names of_state row r (q ∷ qs) (inl e) is =
    let body = any_true (numbered [] []) row (all_exposed of_state (all_resolved names q.body)) in
    let is' : body ≡ true = ap (λ (x : TextRule). any_true (numbered [] []) row (all_exposed of_state (all_resolved names x.body))) (sym e) ∙ is in
    or-left _ _ (and-both (nat_eq (atom_number names q.head) (atom_number names r.head)) _ (number-same _ _ (ap (λ (x : TextRule). atom_number names x.head) (sym e))) (and-true body ∙ is'))
rule-derives names of_state row r (q ∷ qs) (inr h) is = or-right _ _ (rule-derives names of_state row r qs h is)

pub depends-set : (names : NameTable) (d : Description) (of_state : Bool) (row : ℕ → Bool) (a : Derived) → IsDependence names d of_state row → DependsOnGiven Derived (List ℕ) of_state d a → row (atom_number names a) ≡ true
depends-set names d of_state row a eq (at_once b r is head given) =
    ap (λ x. row (atom_number names x)) (sym head) ∙ eq.equation (atom_number names r.head) ∙ rule-derives names of_state row r d is (any-given-true names of_state row r.body given)
depends-set names d of_state row a eq (through b c r is head speaks rest) =
    ap (λ x. row (atom_number names x)) (sym head) ∙ eq.equation (atom_number names r.head) ∙ rule-derives names of_state row r d is (any-spoken-true names of_state row c r.body (depends-set names d of_state row c eq rest) speaks)

-- the literal contains a given sentence, or an atom that is set
abbrev Spoken : NameTable → Bool → (ℕ → Bool) → TextLiteral → Type 0
Spoken names of_state row l = (speaks_of_given of_state l ≡ true) ⊎ ((c : Derived) × SpeaksOf c l × (row (atom_number names c) ≡ true))

abbrev AnySpoken : NameTable → Bool → (ℕ → Bool) → TextLiterals → Type 0
AnySpoken names of_state row ls = (any_speaks_of_given of_state ls ≡ true) ⊎ ((c : Derived) × AnySpeaksOf c ls × (row (atom_number names c) ≡ true))

first-spoken : (names : NameTable) (of_state : Bool) (row : ℕ → Bool) (l : TextLiteral) (ls : TextLiterals) → Spoken names of_state row l → AnySpoken names of_state row (More l ls)
first-spoken names of_state row l ls (inl h) = inl (or-left _ _ h)
first-spoken names of_state row l ls (inr h) = inr (h.0, inl h.1, h.2)

later-spoken : (names : NameTable) (of_state : Bool) (row : ℕ → Bool) (l : TextLiteral) (ls : TextLiterals) → AnySpoken names of_state row ls → AnySpoken names of_state row (More l ls)
later-spoken names of_state row l ls (inl h) = inl (or-right _ _ h)
later-spoken names of_state row l ls (inr h) = inr (h.0, inr h.1, h.2)

split-or : (P : Type 0) (x y : Bool) → (x ≡ true → P) → (y ≡ true → P) → (x || y) ≡ true → P
split-or P true y f g h = f refl
split-or P false y f g h = g h

mutual
  spoken : (names : NameTable) (of_state : Bool) (row : ℕ → Bool) (l : TextLiteral) → truth (numbered [] []) row (exposed of_state (resolved names l)) ≡ true → Spoken names of_state row l
  spoken names of_state row (Holds a) h = inr (a, refl, h)
  spoken names of_state row (InState t) h = inl (sym (known-truth row of_state) ∙ h)
  spoken names of_state row (Does r m) h = inl refl
  spoken names of_state row (Distinct t u) h = absurd (let e = exposed-known of_state row (not (bytes_eq t u)) in cc)
  spoken names of_state row (Not l) h = spoken names of_state row l h
  spoken names of_state row (Or ls) h = any-spoken names of_state row ls h

  any-spoken : (names : NameTable) (of_state : Bool) (row : ℕ → Bool) (ls : TextLiterals) → any_true (numbered [] []) row (all_exposed of_state (all_resolved names ls)) ≡ true → AnySpoken names of_state row ls
  any-spoken names of_state row End h = absurd cc
  any-spoken names of_state row (More l ls) h =
      split-or (AnySpoken names of_state row (More l ls)) (truth (numbered [] []) row (exposed of_state (resolved names l))) _
      (λ e. first-spoken names of_state row l ls (spoken names of_state row l e))
      (λ e. later-spoken names of_state row l ls (any-spoken names of_state row ls e)) h

-- the rule that sets an atom
abbrev Setting : NameTable → Description → Bool → (ℕ → Bool) → Derived → Type 0
Setting names d of_state row a = (r : TextRule) × IsRuleOf r d × (r.head ≡ a) × AnySpoken names of_state row r.body

setting : (names : NameTable) (of_state : Bool) (row : ℕ → Bool) (a : Derived) (d : Description) → HaveHeads names d → derived (numbered [] []) row (exposed_rules of_state (resolved_rules names d)) (atom_number names a) ≡ true → Setting names d of_state row a
setting names of_state row a [] have h = absurd cc
setting names of_state row a (q ∷ qs) have h =
    let body = any_true (numbered [] []) row (all_exposed of_state (all_resolved names q.body)) in
    split-or (Setting names (q ∷ qs) of_state row a) (nat_eq (atom_number names q.head) (atom_number names a) && (body && true)) _
    (λ e. let speaks : body ≡ true = sym (and-true body) ∙ and-right (nat_eq (atom_number names q.head) (atom_number names a)) _ e in
    (q, inl refl, place-one same_derived derived-decides names.heads q.head a have.0 (number-sound _ _ (and-left (nat_eq (atom_number names q.head) (atom_number names a)) _ e)), any-spoken names of_state row q.body speaks))
    (λ e. let s = setting names of_state row a qs have.1 e in (s.0, inr s.1, s.2, s.3)) h

mutual
  lower-spoken : (number : Derived → ℕ) (top : ℕ) (c : Derived) (l : TextLiteral) → AtomsAre (λ a. number a < top) l → SpeaksOf c l → number c < top
  lower-spoken number top c (Holds a) h e = let f = ap number e in omega (arith, f, h)
  lower-spoken number top c (InState t) h e = absurd e
  lower-spoken number top c (Does r m) h e = absurd e
  lower-spoken number top c (Distinct t u) h e = absurd e
  lower-spoken number top c (Not l) h e = lower-spoken number top c l h e
  lower-spoken number top c (Or ls) h e = any-lower-spoken number top c ls h e

  any-lower-spoken : (number : Derived → ℕ) (top : ℕ) (c : Derived) (ls : TextLiterals) → AllAtomsAre (λ a. number a < top) ls → AnySpeaksOf c ls → number c < top
  any-lower-spoken number top c End h e = absurd e
  any-lower-spoken number top c (More l ls) h (inl e) = lower-spoken number top c l h.0 e
  any-lower-spoken number top c (More l ls) h (inr e) = any-lower-spoken number top c ls h.1 e

rule-lower : (number : Derived → ℕ) (d : Description) (r : TextRule) (c : Derived) → IsNumbering number d → IsRuleOf r d → AnySpeaksOf c r.body → number c < number r.head
rule-lower number [] r c numbered' h e = absurd h
rule-lower number (q ∷ qs) r c numbered' (inl same) e =
    let f = any-lower-spoken number (number q.head) c q.body numbered'.0 (subst (λ (x : TextRule). AnySpeaksOf c x.body) same e) in
    let g = ap (λ (x : TextRule). number x.head) same in
    omega (arith, f, g)
rule-lower number (q ∷ qs) r c numbered' (inr h) e = rule-lower number qs r c numbered'.1 h e

set-below : (names : NameTable) (d : Description) (of_state : Bool) (row : ℕ → Bool) (number : Derived → ℕ) → HaveHeads names d → IsNumbering number d → IsDependence names d of_state row → (k : ℕ) (a : Derived) → number a < k → row (atom_number names a) ≡ true → DependsOnGiven Derived (List ℕ) of_state d a
set-below names d of_state row number have numbered' eq zero a below is = absurd (omega (arith, below))
set-below names d of_state row number have numbered' eq (suc k) a below is =
    let s = setting names of_state row a d have (sym (eq.equation (atom_number names a)) ∙ is) in
    by-body s.0 s.1 s.2 s.3 (λ c lower set'. set-below names d of_state row number have numbered' eq k c lower set')
  where
    by-body : (r : TextRule) → IsRuleOf r d → r.head ≡ a → AnySpoken names of_state row r.body → ((c : Derived) → number c < k → row (atom_number names c) ≡ true → DependsOnGiven Derived (List ℕ) of_state d c) → DependsOnGiven Derived (List ℕ) of_state d a
    by-body r is head (inl given) rest = at_once a r is head given
    by-body r is head (inr h) rest =
        let lower = rule-lower number d r h.0 numbered' is h.1 in
        let f = ap number head in
        through a h.0 r is head h.1 (rest h.0 (omega (arith, lower, f, below)) h.2)

pub set-depends : (names : NameTable) (d : Description) (of_state : Bool) (row : ℕ → Bool) (a : Derived) → HaveHeads names d → IsAcyclic d → IsDependence names d of_state row → row (atom_number names a) ≡ true → DependsOnGiven Derived (List ℕ) of_state d a
set-depends names d of_state row a have acyclic eq is = set-below names d of_state row acyclic.0 have acyclic.1 eq (suc (acyclic.0 a)) a (omega arith) is

barred-is : (names : NameTable) (d : Description) (on_moves on_given : ℕ → Bool) (a : Derived) → HaveHeads names d → IsAcyclic d → IsDependence names d false on_moves → IsDependence names d true on_given → barred_by a (on_moves (atom_number names a)) (on_given (atom_number names a)) ≡ true → IsBarred d a
barred-is names d on_moves on_given (Role r) have acyclic m g h = absurd cc
barred-is names d on_moves on_given (Init t) have acyclic m g h = set-depends names d true on_given (Init t) have acyclic g h
barred-is names d on_moves on_given (Next t) have acyclic m g h = absurd cc
barred-is names d on_moves on_given (Legal r k) have acyclic m g h = set-depends names d false on_moves (Legal r k) have acyclic m h
barred-is names d on_moves on_given (Goal r n) have acyclic m g h = set-depends names d false on_moves (Goal r n) have acyclic m h
barred-is names d on_moves on_given Terminal have acyclic m g h = set-depends names d false on_moves Terminal have acyclic m h
barred-is names d on_moves on_given (Other t) have acyclic m g h = absurd cc

is-barred : (names : NameTable) (d : Description) (on_moves on_given : ℕ → Bool) (a : Derived) → IsDependence names d false on_moves → IsDependence names d true on_given → IsBarred d a → barred_by a (on_moves (atom_number names a)) (on_given (atom_number names a)) ≡ true
is-barred names d on_moves on_given (Role r) m g h = absurd h
is-barred names d on_moves on_given (Init t) m g h = depends-set names d true on_given (Init t) g h
is-barred names d on_moves on_given (Next t) m g h = absurd h
is-barred names d on_moves on_given (Legal r k) m g h = depends-set names d false on_moves (Legal r k) m h
is-barred names d on_moves on_given (Goal r n) m g h = depends-set names d false on_moves (Goal r n) m h
is-barred names d on_moves on_given Terminal m g h = depends-set names d false on_moves Terminal m h
is-barred names d on_moves on_given (Other t) m g h = absurd h

found-barred : (names : NameTable) (d : Description) (on_moves on_given : List Bool) (n : ℕ) (hs : List Derived) → HaveHeads names d → IsAcyclic d → IsDependence names d false (bit on_moves) → IsDependence names d true (bit on_given) → StandFrom names n hs → has_barred on_moves on_given n hs ≡ true → HasBarredHead d
found-barred names d on_moves on_given n [] have acyclic m g stand h = absurd cc
found-barred names d on_moves on_given n (a ∷ as') have acyclic m g stand h =
    split-or (HasBarredHead d) (barred_by a (bit on_moves n) (bit on_given n)) _
    (λ e. (a, barred-is names d (bit on_moves) (bit on_given) a have acyclic m g (ap (λ k. barred_by a (bit on_moves k) (bit on_given k)) stand.0 ∙ e)))
    (λ e. found-barred names d on_moves on_given (n + 1) as' have acyclic m g stand.1 e) h

pub barred-found : (names : NameTable) (d : Description) (on_moves on_given : List Bool) → HaveHeads names d → IsAcyclic d → IsDependence names d false (bit on_moves) → IsDependence names d true (bit on_given) → StandFrom names 0 names.heads → has_barred on_moves on_given 0 names.heads ≡ true → HasBarredHead d
barred-found names d on_moves on_given have acyclic m g stand h = found-barred names d on_moves on_given 0 names.heads have acyclic m g stand h

not-barred : (names : NameTable) (on_moves on_given : List Bool) (n : ℕ) (hs : List Derived) (a : Derived) → StandFrom names n hs → list_any (same_derived a) hs ≡ true → barred_by a (bit on_moves (atom_number names a)) (bit on_given (atom_number names a)) ≡ true → has_barred on_moves on_given n hs ≡ true
not-barred names on_moves on_given n [] a stand h is = absurd cc
not-barred names on_moves on_given n (b ∷ bs) a stand h is = by-same (same_derived a b) refl (λ g. not-barred names on_moves on_given (n + 1) bs a stand.1 g is) h
  where
    by-same : (t : Bool) → same_derived a b ≡ t → (list_any (same_derived a) bs ≡ true → has_barred on_moves on_given (n + 1) bs ≡ true) → (t || list_any (same_derived a) bs) ≡ true → has_barred on_moves on_given n (b ∷ bs) ≡ true
    by-same true e rest g =
        let same = derived-sound a b e in
        let at : atom_number names a ≡ n = ap (atom_number names) same ∙ stand.0 in
        or-left _ _ (ap (λ k. barred_by b (bit on_moves k) (bit on_given k)) (sym at) ∙ ap (λ x. barred_by x (bit on_moves (atom_number names a)) (bit on_given (atom_number names a))) (sym same) ∙ is)
    by-same false e rest g = or-right _ _ (rest g)

depends-in : (names : NameTable) (d : Description) (on_moves on_given : ℕ → Bool) (size : ℕ) (a : Derived) → ((n : ℕ) → on_moves n ≡ true → n < size) → ((n : ℕ) → on_given n ≡ true → n < size) → IsDependence names d false on_moves → IsDependence names d true on_given → IsBarred d a → atom_number names a < size
depends-in names d on_moves on_given size (Role r) lm lg m g h = absurd h
depends-in names d on_moves on_given size (Init t) lm lg m g h = lg _ (depends-set names d true on_given (Init t) g h)
depends-in names d on_moves on_given size (Next t) lm lg m g h = absurd h
depends-in names d on_moves on_given size (Legal r k) lm lg m g h = lm _ (depends-set names d false on_moves (Legal r k) m h)
depends-in names d on_moves on_given size (Goal r n) lm lg m g h = lm _ (depends-set names d false on_moves (Goal r n) m h)
depends-in names d on_moves on_given size Terminal lm lg m g h = lm _ (depends-set names d false on_moves Terminal m h)
depends-in names d on_moves on_given size (Other t) lm lg m g h = absurd h

pub barred-none : (names : NameTable) (d : Description) (on_moves on_given : List Bool) → length on_moves ≡ length names.heads → length on_given ≡ length names.heads → IsDependence names d false (bit on_moves) → IsDependence names d true (bit on_given) → StandFrom names 0 names.heads → has_barred on_moves on_given 0 names.heads ≡ false → ¬ (HasBarredHead d)
barred-none names d on_moves on_given wide wide' m g stand none h =
    let lt = depends-in names d (bit on_moves) (bit on_given) (length names.heads) h.0 (λ n e. let k = past on_moves n e in omega (arith, k, wide)) (λ n e. let k = past on_given n e in omega (arith, k, wide')) m g h.1 in
    let f = not-barred names on_moves on_given 0 names.heads h.0 stand (within-any same_derived names.heads h.0 lt) (is-barred names d (bit on_moves) (bit on_given) h.0 m g h.1) in
    absurd cc
