-- From names to numbers: an assignment that fits the numbered rules fits the description.
use Rattle.std.proofs.Common.{◌≡◌, ℕ, zero, suc, ◌<◌, Bool, true, false, not, ◌&&◌, ◌||◌, nat_eq, bytes_eq, List, [], ◌∷◌, length, get_or, refl, sym, ap, ◌∙◌, arith}
use Rattle.std.specs.List.{Contains}
use Rattle.std.specs.List.Sorted.{IsPermutation}
use Rattle.std.proofs.lemmas.List.Sorted.{Contains-permutation, IsPermutation-sym}
use Rattle.rule_sentences.specs.declared.sentence.Derived.{Derived}
use Rattle.ground_rules.specs.Lawfulness.Bools.{bool-same, or-left, or-right}
use Rattle.ground_rules.specs.Lawfulness.Names.{derived-sound, derived-same}
use Rattle.numbered_rules.specs.Literals.{Holds, InState, Does, Distinct, Not, Or, End, More, Rule}
use Rattle.rule_sentences.specs.Sentences.{TextLiteral, TextLiterals}
use Rattle.numbered_rules.specs.Fit.{Situation, truth, any_true, all_true, derived, Fits}
use Rattle.ground_rules.specs.Acyclic.{IsAcyclic}
use Rattle.rule_sentences.specs.Descriptions.{Description, same_derived}
use Rattle.numbered_rules.specs.Numbered.{known, bit, row_after, unset}
use Rattle.ground_rules.specs.Internal.Ranked.{AreRankedFrom}
use Rattle.ground_rules.specs.Internal.Resolved.{NameTable, atom_number, state_number, move_number, role_number, resolved, all_resolved, resolved_rules}
use Rattle.ground_rules.proofs.Fits.{fits-unique}
use Rattle.ground_rules.proofs.Pass.{pass-fits}
use Rattle.ground_rules.proofs.TablePlaces.{Decides, place-same}

pub derived-decides : Decides same_derived
derived-decides = record { sound = derived-sound; itself = derived-same }

pub record Agrees (names : NameTable) (w : Situation Derived (List ℕ)) (u : Situation ℕ ℕ) : Type 0 where
  pub same : (a b : Derived) → w.same a b ≡ same_derived a b
  pub numbers : (m n : ℕ) → u.same m n ≡ nat_eq m n
  pub same_term : (t s : List ℕ) → w.same_term t s ≡ bytes_eq t s
  pub in_state : (t : List ℕ) → w.in_state t ≡ u.in_state (state_number names t)
  pub does : (r m : List ℕ) → w.does r m ≡ u.does (role_number names r) (move_number names m)

known-truth : (u : Situation ℕ ℕ) (row : ℕ → Bool) (b : Bool) → truth u row (known b) ≡ b
known-truth u row true = refl
known-truth u row false = refl

mutual
  truth-resolved : (names : NameTable) (w : Situation Derived (List ℕ)) (u : Situation ℕ ℕ) (row : ℕ → Bool) → Agrees names w u → (l : TextLiteral) → truth w (λ a. row (atom_number names a)) l ≡ truth u row (resolved names l)
  truth-resolved names w u row agree (Holds a) = refl
  truth-resolved names w u row agree (InState t) = agree.in_state t
  truth-resolved names w u row agree (Does r m) = agree.does r m
  truth-resolved names w u row agree (Distinct t s) = ap not (agree.same_term t s) ∙ sym (known-truth u row (not (bytes_eq t s)))
  truth-resolved names w u row agree (Not l) = ap not (truth-resolved names w u row agree l)
  truth-resolved names w u row agree (Or ls) = any-resolved names w u row agree ls

  any-resolved : (names : NameTable) (w : Situation Derived (List ℕ)) (u : Situation ℕ ℕ) (row : ℕ → Bool) → Agrees names w u → (ls : TextLiterals) → any_true w (λ a. row (atom_number names a)) ls ≡ any_true u row (all_resolved names ls)
  any-resolved names w u row agree End = refl
  any-resolved names w u row agree (More l ls) = let e = truth-resolved names w u row agree l in let f = any-resolved names w u row agree ls in cc

all-resolved : (names : NameTable) (w : Situation Derived (List ℕ)) (u : Situation ℕ ℕ) (row : ℕ → Bool) → Agrees names w u → (ls : TextLiterals) → all_true w (λ a. row (atom_number names a)) ls ≡ all_true u row (all_resolved names ls)
all-resolved names w u row agree End = refl
all-resolved names w u row agree (More l ls) = let e = truth-resolved names w u row agree l in let f = all-resolved names w u row agree ls in cc

abbrev pub HaveHeads : NameTable → Description → Type 0
HaveHeads names [] = Unit {0}
HaveHeads names (r ∷ rs) = (atom_number names r.head < length names.heads) × HaveHeads names rs

derived-resolved : (names : NameTable) (w : Situation Derived (List ℕ)) (u : Situation ℕ ℕ) (row : ℕ → Bool) → Agrees names w u → (d : Description) → HaveHeads names d → (a : Derived) → derived w (λ b. row (atom_number names b)) d a ≡ derived u row (resolved_rules names d) (atom_number names a)
derived-resolved names w u row agree [] have a = refl
derived-resolved names w u row agree (r ∷ rs) have a =
    let first : w.same r.head a ≡ u.same (atom_number names r.head) (atom_number names a) = agree.same r.head a ∙ place-same same_derived derived-decides names.heads r.head a have.0 ∙ sym (agree.numbers (atom_number names r.head) (atom_number names a)) in
    let body = all-resolved names w u row agree r.body in
    let rest = derived-resolved names w u row agree rs have.1 a in
    cc

deriving-rule : (u : Situation ℕ ℕ) (row : ℕ → Bool) (rs : List (Rule ℕ ℕ)) (a : ℕ) → derived u row rs a ≡ true → (r : Rule ℕ ℕ) × Contains rs r × ((u.same r.head a && all_true u row r.body) ≡ true)
deriving-rule u row [] a h = absurd cc
deriving-rule u row (r ∷ rs) a h = by-first (u.same r.head a && all_true u row r.body) refl (deriving-rule u row rs a) h
  where
    by-first : (b : Bool) → (u.same r.head a && all_true u row r.body) ≡ b → (derived u row rs a ≡ true → (q : Rule ℕ ℕ) × Contains rs q × ((u.same q.head a && all_true u row q.body) ≡ true)) → (b || derived u row rs a) ≡ true → (q : Rule ℕ ℕ) × Contains (r ∷ rs) q × ((u.same q.head a && all_true u row q.body) ≡ true)
    by-first true is rest e = (r, (0, omega arith, refl), is)
    by-first false is rest e = let q = rest e in (q.0, (suc q.1.0, omega (arith, q.1.1), q.1.2), q.2)

derives : (u : Situation ℕ ℕ) (row : ℕ → Bool) (rs : List (Rule ℕ ℕ)) (r : Rule ℕ ℕ) (a k : ℕ) → k < length rs → get_or rs k r ≡ r → (u.same r.head a && all_true u row r.body) ≡ true → derived u row rs a ≡ true
derives u row [] r a k lt at is = absurd (omega (arith, lt))
derives u row (q ∷ rs) r a zero lt at is = or-left _ _ (ap (λ x. u.same x.head a && all_true u row x.body) at ∙ is)
derives u row (q ∷ rs) r a (suc k) lt at is = or-right _ _ (derives u row rs r a k (omega (arith, lt)) at is)

-- the order of the rules does not matter
pub derived-permuted : (u : Situation ℕ ℕ) (row : ℕ → Bool) (rs ss : List (Rule ℕ ℕ)) (a : ℕ) → IsPermutation rs ss → derived u row rs a ≡ derived u row ss a
derived-permuted u row rs ss a moved =
    bool-same (derived u row rs a) (derived u row ss a)
    (λ h. let q = deriving-rule u row rs a h in let c = Contains-permutation rs ss q.0 moved q.1 in derives u row ss q.0 a c.0 c.1 c.2 q.2)
    (λ h. let q = deriving-rule u row ss a h in let c = Contains-permutation ss rs q.0 (IsPermutation-sym rs ss moved) q.1 in derives u row rs q.0 a c.0 c.1 c.2 q.2)

pub fit-is-row : (names : NameTable) (d : Description) (w : Situation Derived (List ℕ)) (u : Situation ℕ ℕ) (rank : ℕ → ℕ) (atoms : ℕ) (rs : List (Rule ℕ ℕ)) (v : Derived → Bool)
    → Agrees names w u → HaveHeads names d → IsAcyclic d → IsPermutation (resolved_rules names d) rs → AreRankedFrom rank 0 atoms rs → Fits w d v
    → (a : Derived) → v a ≡ bit (row_after u (unset atoms) rs) (atom_number names a)
fit-is-row names d w u rank atoms rs v agree have acyclic moved ranked fits =
    let row : ℕ → Bool = bit (row_after u (unset atoms) rs) in
    let by_numbers : Fits u rs row = pass-fits u rank atoms rs agree.numbers ranked in
    let by_names : Fits w d (λ a. row (atom_number names a)) = λ a. by_numbers (atom_number names a) ∙ sym (derived-permuted u row (resolved_rules names d) rs (atom_number names a) moved) ∙ sym (derived-resolved names w u row agree d have a) in
    fits-unique w acyclic.0 v (λ a. row (atom_number names a)) d (λ x y is. derived-sound x y (sym (agree.same x y) ∙ is)) acyclic.1 fits by_names
