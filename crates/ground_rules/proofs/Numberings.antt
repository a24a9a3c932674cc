-- A ranking of the heads numbers the description, and a numbering of the description numbers the heads.
use Rattle.std.proofs.Common.{◌≡◌, ℕ, zero, suc, ◌<◌, ◌≤◌, ◌⊎◌, inl, inr, Bool, true, false, if◌then◌else◌, nat_eq, nat_lt, List, [], ◌∷◌, ◌++◌, length, get_or, slice_index, refl, sym, ap, arith, subst}
use Rattle.std.specs.List.{All}
use Rattle.std.specs.List.Sorted.{IsNonDecreasingBy}
use Rattle.std.proofs.lemmas.Bool.Decides.{nat_tests, Decides-ltb}
use Rattle.rule_sentences.specs.declared.sentence.Derived.{Derived}
use Rattle.rule_sentences.specs.declared.sentence.Derived.TheVariants.{Terminal}
use Rattle.numbered_rules.specs.declared.numbered.Rule.{Rule as CodeRule}
use Rattle.numbered_rules.specs.Literals.{Literal, Literals, Holds, InState, Does, Distinct, Not, Or, End, More, Rule, AtomsAre, AllAtomsAre}
use Rattle.rule_sentences.specs.Sentences.{TextLiteral, TextLiterals}
use Rattle.ground_rules.specs.Acyclic.{IsNumbering, IsAcyclic}
use Rattle.rule_sentences.specs.Descriptions.{Description, same_derived}
use Rattle.ground_rules.specs.Lawfulness.Names.{number-sound}
use Rattle.numbered_rules.specs.Numbered.{known, rule_of, rules_of}
use Rattle.ground_rules.specs.Internal.Ranked.{AreRankedFrom}
use Rattle.numbered_rules.specs.Order.{IsGraph, IsGraphAcyclic, IsRanking, needs_at}
use Rattle.numbered_rules.specs.Needs.{atoms_in, all_atoms_in, needs_of}
use Rattle.ground_rules.specs.Internal.Resolved.{NameTable, atom_number, resolved, all_resolved, resolved_rule, resolved_rules}
use Rattle.ground_rules.proofs.TablePlaces.{place-at}
use Rattle.ground_rules.proofs.Transfer.{HaveHeads, derived-decides}

abbrev Among : ℕ → List ℕ → Type 0
Among x [] = ⊥
Among x (y ∷ ys) = (x ≡ y) ⊎ Among x ys

among-at : (xs : List ℕ) (i : ℕ) → i < length xs → Among (slice_index xs i) xs
among-at [] i lt = absurd (omega (arith, lt))
among-at (x ∷ xs) zero lt = inl refl
among-at (x ∷ xs) (suc i) lt = inr (among-at xs i (omega (arith, lt)))

at-among : (x : ℕ) (xs : List ℕ) → Among x xs → (i : ℕ) × (i < length xs) × (slice_index xs i ≡ x)
at-among x [] h = absurd h
at-among x (y ∷ ys) (inl e) = (0, omega arith, sym e)
at-among x (y ∷ ys) (inr h) = let i = at-among x ys h in (suc i.0, omega (arith, i.1), i.2)

among-left : (x : ℕ) (xs ys : List ℕ) → Among x xs → Among x (xs ++ ys)
among-left x [] ys h = absurd h
among-left x (y ∷ xs) ys (inl e) = inl e
among-left x (y ∷ xs) ys (inr h) = inr (among-left x xs ys h)

among-right : (x : ℕ) (xs ys : List ℕ) → Among x ys → Among x (xs ++ ys)
among-right x [] ys h = h
among-right x (y ∷ xs) ys h = inr (among-right x xs ys h)

among-split : (x : ℕ) (xs ys : List ℕ) → Among x (xs ++ ys) → Among x xs ⊎ Among x ys
among-split x [] ys h = inr h
among-split x (y ∷ xs) ys (inl e) = inl (inl e)
among-split x (y ∷ xs) ys (inr h) = elim (among-split x xs ys h) [ inl a ↦ inl (inr a) | inr b ↦ inr b ]

below : (m n : ℕ) → nat_lt m n ≡ true → m < n
below m n h = (Decides-ltb m n).0 h

in-one : (x a size : ℕ) (b : Bool) → nat_lt a size ≡ b → Among x (if b then a ∷ [] else []) → (x ≡ a) × (a < size)
in-one x a size true is (inl e) = (e, below a size is)
in-one x a size true is (inr h) = absurd h
in-one x a size false is h = absurd h

mutual
  atoms-below : (size : ℕ) (l : Literal ℕ ℕ) (x : ℕ) → Among x (atoms_in size l) → x < size
  atoms-below size (Holds a) x h = let e = in-one x a size (nat_lt a size) refl h in omega (arith, e.0, e.1)
  atoms-below size (InState t) x h = absurd h
  atoms-below size (Does r m) x h = absurd h
  atoms-below size (Distinct t u) x h = absurd h
  atoms-below size (Not l) x h = atoms-below size l x h
  atoms-below size (Or ls) x h = all-atoms-below size ls x h

  all-atoms-below : (size : ℕ) (ls : Literals ℕ ℕ) (x : ℕ) → Among x (all_atoms_in size ls) → x < size
  all-atoms-below size End x h = absurd h
  all-atoms-below size (More l ls) x h = elim (among-split x (atoms_in size l) (all_atoms_in size ls) h) [ inl a ↦ atoms-below size l x a | inr b ↦ all-atoms-below size ls x b ]

in-if : (x : ℕ) (xs : List ℕ) (b : Bool) → Among x (if b then xs else []) → (b ≡ true) × Among x xs
in-if x xs true h = (refl, h)
in-if x xs false h = absurd h

needs-below : (size n : ℕ) (rs : List (Rule ℕ ℕ)) (x : ℕ) → Among x (needs_of size n rs) → x < size
needs-below size n [] x h = absurd h
needs-below size n (r ∷ rs) x h = elim (among-split x (if nat_eq r.head n then all_atoms_in size r.body else []) (needs_of size n rs) h) [
  | inl a ↦ all-atoms-below size r.body x (in-if x (all_atoms_in size r.body) (nat_eq r.head n) a).1
  | inr b ↦ needs-below size n rs x b
]

pub record AreNeedsOf (needs : List (List ℕ)) (size : ℕ) (rules : List (Rule ℕ ℕ)) : Type 0 where
  pub wide : length needs ≡ size
  pub each : (n : ℕ) → n < size → needs_at needs n ≡ needs_of size n rules

need-in : (needs : List (List ℕ)) (size : ℕ) (rules : List (Rule ℕ ℕ)) (n i : ℕ) → AreNeedsOf needs size rules → n < length needs → i < length (needs_at needs n) → Among (slice_index (needs_at needs n) i) (needs_of size n rules)
need-in needs size rules n i are lt at = subst (λ (xs : List ℕ). Among (slice_index (needs_at needs n) i) xs) (are.each n (omega (arith, are.wide, lt))) (among-at (needs_at needs n) i at)

pub needs-graph : (needs : List (List ℕ)) (size : ℕ) (rules : List (Rule ℕ ℕ)) → AreNeedsOf needs size rules → IsGraph needs
needs-graph needs size rules are n i lt at = let b = needs-below size n rules (slice_index (needs_at needs n) i) (need-in needs size rules n i are lt at) in omega (arith, b, are.wide)

-- the rank of an atom; an atom that is not a head has the lowest rank
abbrev pub rank_by : ℕ → List ℕ → ℕ → ℕ
rank_by size places a = if nat_lt a size then suc (slice_index places a) else 0

rank-of-head : (size : ℕ) (places : List ℕ) (a : ℕ) → a < size → rank_by size places a ≡ suc (slice_index places a)
rank-of-head size places a lt = rw ((Decides-ltb a size).1 lt) refl

-- each atom of a body has a lower rank than the head
abbrev pub IsLower : ℕ → List ℕ → Rule ℕ ℕ → Type 0
IsLower size places r = (r.head < size) × AllAtomsAre (λ a. rank_by size places a < rank_by size places r.head) r.body

mutual
  lower-atoms : (size : ℕ) (places : List ℕ) (n : ℕ) (l : Literal ℕ ℕ) → n < size → ((b : ℕ) → Among b (atoms_in size l) → slice_index places b < slice_index places n) → AtomsAre (λ a. rank_by size places a < rank_by size places n) l
  lower-atoms size places n (Holds a) lt each = by-test (nat_lt a size) refl each
    where
      by-test : (t : Bool) → nat_lt a size ≡ t → ((b : ℕ) → Among b (if t then a ∷ [] else []) → slice_index places b < slice_index places n) → (if t then suc (slice_index places a) else 0) < rank_by size places n
      by-test true is each = let e = rank-of-head size places n lt in let f = each a (inl refl) in omega (arith, e, f)
      by-test false is each = let e = rank-of-head size places n lt in omega (arith, e)
  lower-atoms size places n (InState t) lt each = tt
  lower-atoms size places n (Does r m) lt each = tt
  lower-atoms size places n (Distinct t u) lt each = tt
  lower-atoms size places n (Not l) lt each = lower-atoms size places n l lt each
  lower-atoms size places n (Or ls) lt each = all-lower-atoms size places n ls lt each

  all-lower-atoms : (size : ℕ) (places : List ℕ) (n : ℕ) (ls : Literals ℕ ℕ) → n < size → ((b : ℕ) → Among b (all_atoms_in size ls) → slice_index places b < slice_index places n) → AllAtomsAre (λ a. rank_by size places a < rank_by size places n) ls
  all-lower-atoms size places n End lt each = tt
  all-lower-atoms size places n (More l ls) lt each =
      (lower-atoms size places n l lt (λ b h. each b (among-left b (atoms_in size l) (all_atoms_in size ls) h)), all-lower-atoms size places n ls lt (λ b h. each b (among-right b (atoms_in size l) (all_atoms_in size ls) h)))

needs-has : (size : ℕ) (rs : List (Rule ℕ ℕ)) (k : ℕ) (d : Rule ℕ ℕ) (b : ℕ) → k < length rs → Among b (all_atoms_in size (get_or rs k d).body) → Among b (needs_of size (get_or rs k d).head rs)
needs-has size [] k d b lt h = absurd (omega (arith, lt))
needs-has size (r ∷ rs) zero d b lt h = among-left b _ (needs_of size r.head rs) (rw (same r.head) h)
  where
    same : (n : ℕ) → nat_eq n n ≡ true
    same n = grind (arith, nat_tests)
needs-has size (r ∷ rs) (suc k) d b lt h = among-right b (if nat_eq r.head (get_or rs k d).head then all_atoms_in size r.body else []) _ (needs-has size rs k d b (omega (arith, lt)) h)

have-head-at : (names : NameTable) (d : Description) (k : ℕ) (e : Rule ℕ ℕ) → HaveHeads names d → k < length (resolved_rules names d) → (get_or (resolved_rules names d) k e).head < length names.heads
have-head-at names [] k e have lt = absurd (omega (arith, lt))
have-head-at names (r ∷ rs) zero e have lt = have.0
have-head-at names (r ∷ rs) (suc k) e have lt = have-head-at names rs k e have.1 (omega (arith, lt))

pub rules-lower : (names : NameTable) (d : Description) (needs : List (List ℕ)) (order places : List ℕ) → HaveHeads names d → AreNeedsOf needs (length names.heads) (resolved_rules names d) → IsRanking needs order places → All (IsLower (length names.heads) places) (resolved_rules names d)
rules-lower names d needs order places have are ranking k e lt =
    let size = length names.heads in
    let rules = resolved_rules names d in
    let r = get_or rules k e in
    let head = have-head-at names d k e have lt in (
      head,
      all-lower-atoms size places r.head r.body head (λ b h.
          let m = needs-has size rules k e b lt h in
          let at = at-among b (needs_at needs r.head) (subst (λ (xs : List ℕ). Among b xs) (sym (are.each r.head head)) m) in
          let down = ranking.down r.head at.0 (omega (arith, are.wide, head)) at.1 in
          let f = ap (slice_index places) at.2 in
          omega (arith, down, f)),
    )

pub ranked-from : (size : ℕ) (places : List ℕ) (rs : List CodeRule) (low : ℕ) → All (IsLower size places) (rules_of rs) → IsNonDecreasingBy (λ (r : CodeRule). slice_index places r.head) rs → ((d : CodeRule) → 0 < length rs → low ≤ rank_by size places (get_or rs 0 d).head) → AreRankedFrom (rank_by size places) low size (rules_of rs)
ranked-from size places [] low lower sorted first = tt
ranked-from size places (r ∷ rs) low lower sorted first =
    let here = lower 0 (rule_of r) (omega arith) in (
      first r (omega arith),
      here.0,
      here.1,
      ranked-from size places rs (rank_by size places r.head) (λ k d lt. lower (suc k) d (omega (arith, lt))) (λ i j d le lt. sorted (suc i) (suc j) d (omega (arith, le)) (omega (arith, lt)))
          (λ d some.
          let up = sorted 0 1 d (omega arith) (omega (arith, some)) in
          let next = (lower 1 (rule_of d) (length-of-rules rs some)).0 in
          let e = rank-of-head size places r.head here.0 in
          let f = rank-of-head size places (get_or rs 0 d).head (head-in rs d size some next) in
          omega (arith, up, e, f)),
    )
  where
    length-of-rules : (rs : List CodeRule) → 0 < length rs → 1 < length (rule_of r ∷ rules_of rs)
    length-of-rules [] some = absurd (omega (arith, some))
    length-of-rules (q ∷ qs) some = omega arith

    head-in : (rs : List CodeRule) (d : CodeRule) (size : ℕ) → 0 < length rs → (get_or (rules_of rs) 0 (rule_of d)).head < size → (get_or rs 0 d).head < size
    head-in [] d size some h = absurd (omega (arith, some))
    head-in (q ∷ qs) d size some h = h

mutual
  text-atoms : (names : NameTable) (P : ℕ → Type 0) (l : TextLiteral) → AtomsAre P (resolved names l) → AtomsAre (λ a. P (atom_number names a)) l
  text-atoms names P (Holds a) h = h
  text-atoms names P (InState t) h = tt
  text-atoms names P (Does r m) h = tt
  text-atoms names P (Distinct t u) h = tt
  text-atoms names P (Not l) h = text-atoms names P l h
  text-atoms names P (Or ls) h = all-text-atoms names P ls h

  all-text-atoms : (names : NameTable) (P : ℕ → Type 0) (ls : TextLiterals) → AllAtomsAre P (all_resolved names ls) → AllAtomsAre (λ a. P (atom_number names a)) ls
  all-text-atoms names P End h = tt
  all-text-atoms names P (More l ls) h = (text-atoms names P l h.0, all-text-atoms names P ls h.1)

pub ranks-number : (names : NameTable) (places : List ℕ) (d : Description) → All (IsLower (length names.heads) places) (resolved_rules names d) → IsNumbering (λ a. rank_by (length names.heads) places (atom_number names a)) d
ranks-number names places [] lower = tt
ranks-number names places (r ∷ rs) lower =
    let size = length names.heads in (
      all-text-atoms names (λ a. rank_by size places a < rank_by size places (atom_number names r.head)) r.body (lower 0 (resolved_rule names r) (omega arith)).1,
      ranks-number names places rs (λ k d lt. lower (suc k) d (omega (arith, lt))),
    )

abbrev name_at : NameTable → ℕ → Derived
name_at names n = get_or names.heads n Terminal

name-of : (names : NameTable) (a : Derived) → atom_number names a < length names.heads → name_at names (atom_number names a) ≡ a
name-of names a lt = place-at same_derived derived-decides names.heads a Terminal lt

mutual
  text-lower : (names : NameTable) (number : Derived → ℕ) (top b : ℕ) (l : TextLiteral) → AtomsAre (λ a. number a < top) l → Among b (atoms_in (length names.heads) (resolved names l)) → number (name_at names b) < top
  text-lower names number top b (Holds a) h m =
      let e = in-one b (atom_number names a) (length names.heads) (nat_lt (atom_number names a) (length names.heads)) refl m in
      let f = ap (λ n. number (name_at names n)) e.0 in
      let g = ap number (name-of names a e.1) in
      omega (arith, f, g, h)
  text-lower names number top b (InState t) h m = absurd m
  text-lower names number top b (Does r k) h m = absurd m
  text-lower names number top b (Distinct t u) h m = absurd (none-known (not-same t u) m)
    where
      not-same : (t u : List ℕ) → Bool
      not-same t u = Rattle.std.proofs.Common.not (Rattle.std.proofs.Common.bytes_eq t u)

      none-known : (k : Bool) → Among b (atoms_in (length names.heads) (known k)) → ⊥
      none-known true h = h
      none-known false h = h
  text-lower names number top b (Not l) h m = text-lower names number top b l h m
  text-lower names number top b (Or ls) h m = all-text-lower names number top b ls h m

  all-text-lower : (names : NameTable) (number : Derived → ℕ) (top b : ℕ) (ls : TextLiterals) → AllAtomsAre (λ a. number a < top) ls → Among b (all_atoms_in (length names.heads) (all_resolved names ls)) → number (name_at names b) < top
  all-text-lower names number top b End h m = absurd m
  all-text-lower names number top b (More l ls) h m = elim (among-split b (atoms_in (length names.heads) (resolved names l)) (all_atoms_in (length names.heads) (all_resolved names ls)) m) [
    | inl i ↦ text-lower names number top b l h.0 i
    | inr j ↦ all-text-lower names number top b ls h.1 j
  ]

needs-lower : (names : NameTable) (number : Derived → ℕ) (d : Description) (n b : ℕ) → n < length names.heads → IsNumbering number d → Among b (needs_of (length names.heads) n (resolved_rules names d)) → number (name_at names b) < number (name_at names n)
needs-lower names number [] n b lt numbered h = absurd h
needs-lower names number (r ∷ rs) n b lt numbered h =
    let size = length names.heads in
    elim (among-split b (if nat_eq (atom_number names r.head) n then all_atoms_in size (all_resolved names r.body) else []) (needs_of size n (resolved_rules names rs)) h) [
      | inl i ↦
          let e = in-if b (all_atoms_in size (all_resolved names r.body)) (nat_eq (atom_number names r.head) n) i in
          let same : atom_number names r.head ≡ n = number-sound _ _ e.0 in
          let f = all-text-lower names number (number r.head) b r.body numbered.0 e.1 in
          let g = ap (λ k. number (name_at names k)) same in
          let k = ap number (name-of names r.head (omega (arith, same, lt))) in
          omega (arith, f, g, k)
      | inr j ↦ needs-lower names number rs n b lt numbered.1 j
    ]

pub acyclic-graph : (names : NameTable) (d : Description) (needs : List (List ℕ)) → AreNeedsOf needs (length names.heads) (resolved_rules names d) → IsAcyclic d → IsGraphAcyclic needs
acyclic-graph names d needs are acyclic = (
  λ n. acyclic.0 (name_at names n),
  λ n i lt at. needs-lower names acyclic.0 d n (slice_index (needs_at needs n) i) (omega (arith, are.wide, lt)) acyclic.1 (need-in needs (length names.heads) (resolved_rules names d) n i are lt at),
)
