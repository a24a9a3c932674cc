-- Rules that do not depend on moves come first: the two parts together have a ranking.
use Rattle.std.proofs.Common.{ℕ, ◌+◌, ◌<◌, ◌≤◌, ◌≡◌, Bool, true, false, not, ◌&&◌, ◌||◌, if◌then◌else◌, nat_eq, List, [], ◌∷◌, ◌++◌, length, refl, ap, sym, ◌∙◌, arith, filter, subst}
use Rattle.std.proofs.lemmas.Bool.{false_from_ne_true}
use Rattle.std.proofs.lemmas.List.Sorted.{IsPermutation-filter_both, IsPermutation-trans}
use Rattle.rule_sentences.specs.declared.sentence.Derived.{Derived}
use Rattle.rule_sentences.specs.declared.sentence.Derived.TheVariants.{Role, Init, Next, Legal, Goal, Terminal, Other}
use Rattle.numbered_rules.specs.declared.numbered.Rule.{Rule as CodeRule}
use Rattle.ground_rules.specs.Lawfulness.Bools.{or-false-left, or-false-right}
use Rattle.ground_rules.specs.Lawfulness.Names.{number-same}
use Rattle.numbered_rules.specs.Literals.{Literal, Literals, Holds, InState, Does, Distinct, Not, Or, End, More, Rule, AtomsAre, AllAtomsAre}
use Rattle.numbered_rules.specs.Fit.{truth, any_true, derived, Fits}
use Rattle.ground_rules.specs.Acyclic.{IsAcyclic}
use Rattle.ground_rules.specs.Dependence.{speaks_of_given, any_speaks_of_given, DependsOnGiven, HasBarredHead}
use Rattle.rule_sentences.specs.Descriptions.{Description}
use Rattle.numbered_rules.specs.Exposed.{exposed, all_exposed, exposed_rules}
use Rattle.numbered_rules.specs.Numbered.{bit, numbered, row_after, unset, rule_of, rules_of}
use Rattle.ground_rules.specs.Internal.Ranked.{AreRankedFrom}
use Rattle.ground_rules.specs.Internal.SplitRules.{SpeakOfNoMoves, IsNoHead, IsAnswer, AreSplitOf}
use Rattle.ground_rules.specs.Internal.Resolved.{NameTable, atom_number, resolved_rules}
use Rattle.ground_rules.specs.Internal.GameParts.{IsTableOf, AreRankedOf}
use Rattle.ground_rules.proofs.Fits.{all_atoms-weaken}
use Rattle.ground_rules.proofs.Pass.{pass-fits}
use Rattle.ground_rules.proofs.HeadTables.{heads-there}
use Rattle.ground_rules.proofs.Dependences.{exposed-ranked, set-depends}
use Rattle.ground_rules.proofs.RankedRules.{dependence-of}

-- if the head of a rule is not set, no literal of its exposed body is true
abbrev pub AreClosed : (ℕ → Bool) → List (Rule ℕ ℕ) → Type 0
AreClosed on [] = Unit {0}
AreClosed on (r ∷ rs) = (on r.head ≡ false → any_true (numbered [] []) on (all_exposed false r.body) ≡ false) × AreClosed on rs

first-off : (x y z : Bool) → x ≡ true → ((x && (y && true)) || z) ≡ false → y ≡ false
first-off x true z is h = absurd cc
first-off x false z is h = refl

closed : (on : ℕ → Bool) (rs : List (Rule ℕ ℕ)) → ((a : ℕ) → on a ≡ false → derived (numbered [] []) on (exposed_rules false rs) a ≡ false) → AreClosed on rs
closed on [] f = tt
closed on (r ∷ rs) f = (
  (λ off. first-off (nat_eq r.head r.head) _ (derived (numbered [] []) on (exposed_rules false rs) r.head) (number-same r.head r.head refl) (f r.head off)),
  closed on rs (λ a off. or-false-right _ (derived (numbered [] []) on (exposed_rules false rs) a) (f a off)),
)

-- if the exposed literal is false, none of its atoms is set
mutual
  off-atoms : (on : ℕ → Bool) (l : Literal ℕ ℕ) → truth (numbered [] []) on (exposed false l) ≡ false → AtomsAre (λ a. on a ≡ false) l
  off-atoms on (Holds a) h = h
  off-atoms on (InState t) h = tt
  off-atoms on (Does r m) h = tt
  off-atoms on (Distinct t u) h = tt
  off-atoms on (Not l) h = off-atoms on l h
  off-atoms on (Or ls) h = all-off-atoms on ls h

  all-off-atoms : (on : ℕ → Bool) (ls : Literals ℕ ℕ) → any_true (numbered [] []) on (all_exposed false ls) ≡ false → AllAtomsAre (λ a. on a ≡ false) ls
  all-off-atoms on End h = tt
  all-off-atoms on (More l ls) h = (off-atoms on l (or-false-left _ _ h), all-off-atoms on ls (or-false-right (truth (numbered [] []) on (exposed false l)) _ h))

mutual
  off-moves : (on : ℕ → Bool) (l : Literal ℕ ℕ) → truth (numbered [] []) on (exposed false l) ≡ false → speaks_of_given false l ≡ false
  off-moves on (Holds a) h = refl
  off-moves on (InState t) h = refl
  off-moves on (Does r m) h = absurd cc
  off-moves on (Distinct t u) h = refl
  off-moves on (Not l) h = off-moves on l h
  off-moves on (Or ls) h = all-off-moves on ls h

  all-off-moves : (on : ℕ → Bool) (ls : Literals ℕ ℕ) → any_true (numbered [] []) on (all_exposed false ls) ≡ false → any_speaks_of_given false ls ≡ false
  all-off-moves on End h = refl
  all-off-moves on (More l ls) h =
      let e = off-moves on l (or-false-left _ _ h) in
      let f = all-off-moves on ls (or-false-right (truth (numbered [] []) on (exposed false l)) _ h) in
      cc

-- the atoms that are set rank above all others
abbrev lifted : (ℕ → ℕ) → ℕ → (ℕ → Bool) → ℕ → ℕ
lifted rank top on a = if on a then top + rank a else rank a

lifted-off : (rank : ℕ → ℕ) (top : ℕ) (on : ℕ → Bool) (a : ℕ) → on a ≡ false → lifted rank top on a ≡ rank a
lifted-off rank top on a h = rw h refl

lifted-on : (rank : ℕ → ℕ) (top : ℕ) (on : ℕ → Bool) (a : ℕ) → on a ≡ true → lifted rank top on a ≡ top + rank a
lifted-on rank top on a h = rw h refl

lifted-most : (rank : ℕ → ℕ) (top : ℕ) (on : ℕ → Bool) (a : ℕ) → lifted rank top on a ≤ top + rank a
lifted-most rank top on a = by (on a)
  where
    by : (b : Bool) → (if b then top + rank a else rank a) ≤ top + rank a
    by true = omega arith
    by false = omega arith

mutual
  off-lower : (rank : ℕ → ℕ) (top : ℕ) (on : ℕ → Bool) (n : ℕ) (l : Literal ℕ ℕ) → AtomsAre (λ a. rank a < n) l → AtomsAre (λ a. on a ≡ false) l → AtomsAre (λ a. lifted rank top on a < n) l
  off-lower rank top on n (Holds a) h k = let e = lifted-off rank top on a k in omega (arith, e, h)
  off-lower rank top on n (InState t) h k = tt
  off-lower rank top on n (Does r m) h k = tt
  off-lower rank top on n (Distinct t u) h k = tt
  off-lower rank top on n (Not l) h k = off-lower rank top on n l h k
  off-lower rank top on n (Or ls) h k = all-off-lower rank top on n ls h k

  all-off-lower : (rank : ℕ → ℕ) (top : ℕ) (on : ℕ → Bool) (n : ℕ) (ls : Literals ℕ ℕ) → AllAtomsAre (λ a. rank a < n) ls → AllAtomsAre (λ a. on a ≡ false) ls → AllAtomsAre (λ a. lifted rank top on a < n) ls
  all-off-lower rank top on n End h k = tt
  all-off-lower rank top on n (More l ls) h k = (off-lower rank top on n l h.0 k.0, all-off-lower rank top on n ls h.1 k.1)

ranked-turn : (rank : ℕ → ℕ) (top : ℕ) (on : ℕ → Bool) (atoms low from : ℕ) (rs : List (Rule ℕ ℕ)) → from ≤ top + low → AreRankedFrom rank low atoms rs → AreRankedFrom (lifted rank top on) from atoms (filter (λ r. on r.head) rs)
ranked-turn rank top on atoms low from [] le h = tt
ranked-turn rank top on atoms low from (r ∷ rs) le h = by (on r.head) refl (λ x le'. ranked-turn rank top on atoms (rank r.head) x rs le' h.3)
  where
    by : (b : Bool) → on r.head ≡ b → ((x : ℕ) → x ≤ top + rank r.head → AreRankedFrom (lifted rank top on) x atoms (filter (λ r. on r.head) rs)) → AreRankedFrom (lifted rank top on) from atoms (if b then r ∷ filter (λ r. on r.head) rs else filter (λ r. on r.head) rs)
    by true is rest =
        let e = lifted-on rank top on r.head is in (
          omega (arith, e, le, h.0),
          h.1,
          all_atoms-weaken (λ a. rank a < rank r.head) (λ a. lifted rank top on a < lifted rank top on r.head) r.body (λ a lt. let m = lifted-most rank top on a in omega (arith, m, e, lt)) h.2,
          rest (lifted rank top on r.head) (omega (arith, e)),
        )
    by false is rest = rest from (omega (arith, le, h.0))

-- a number above the ranks of all heads
abbrev ranks-sum : (ℕ → ℕ) → List (Rule ℕ ℕ) → ℕ
ranks-sum rank [] = 0
ranks-sum rank (r ∷ rs) = rank r.head + ranks-sum rank rs

ranked-rest : (rank : ℕ → ℕ) (top : ℕ) (on : ℕ → Bool) (atoms low from : ℕ) (rs later : List (Rule ℕ ℕ)) → from ≤ low → from ≤ top → ranks-sum rank rs ≤ top → AreClosed on rs → AreRankedFrom rank low atoms rs
    → ((x : ℕ) → x ≤ top → AreRankedFrom (lifted rank top on) x atoms later) → AreRankedFrom (lifted rank top on) from atoms (filter (λ r. not (on r.head)) rs ++ later)
ranked-rest rank top on atoms low from [] later le lt most off h f = f from lt
ranked-rest rank top on atoms low from (r ∷ rs) later le lt most off h f = by (on r.head) refl (λ x le' lt'. ranked-rest rank top on atoms (rank r.head) x rs later le' lt' (omega (arith, most)) off.1 h.3 f)
  where
    by : (b : Bool) → on r.head ≡ b → ((x : ℕ) → x ≤ rank r.head → x ≤ top → AreRankedFrom (lifted rank top on) x atoms (filter (λ r. not (on r.head)) rs ++ later)) → AreRankedFrom (lifted rank top on) from atoms ((if not b then r ∷ filter (λ r. not (on r.head)) rs else filter (λ r. not (on r.head)) rs) ++ later)
    by true is rest = rest from (omega (arith, le, h.0)) lt
    by false is rest =
        let e = lifted-off rank top on r.head is in
        let lower = all-off-lower rank top on (rank r.head) r.body h.2 (all-off-atoms on r.body (off.0 is)) in (
          omega (arith, e, le, h.0),
          h.1,
          all_atoms-weaken (λ a. lifted rank top on a < rank r.head) (λ a. lifted rank top on a < lifted rank top on r.head) r.body (λ a lt. omega (arith, e, lt)) lower,
          rest (lifted rank top on r.head) (omega (arith, e)) (omega (arith, e, most)),
        )

pub split-ranked : (rank : ℕ → ℕ) (on : ℕ → Bool) (atoms : ℕ) (rs : List (Rule ℕ ℕ)) → AreClosed on rs → AreRankedFrom rank 0 atoms rs → AreRankedFrom (lifted rank (ranks-sum rank rs) on) 0 atoms (filter (λ r. not (on r.head)) rs ++ filter (λ r. on r.head) rs)
split-ranked rank on atoms rs off h =
    let top = ranks-sum rank rs in
    ranked-rest rank top on atoms 0 0 rs (filter (λ r. on r.head) rs) (omega arith) (omega arith) (omega arith) off h
    (λ x le. ranked-turn rank top on atoms 0 x rs (omega (arith, le)) h)

no-moves : (on : ℕ → Bool) (rs : List (Rule ℕ ℕ)) → AreClosed on rs → SpeakOfNoMoves (filter (λ r. not (on r.head)) rs)
no-moves on [] off = tt
no-moves on (r ∷ rs) off = by (on r.head) refl (no-moves on rs off.1)
  where
    by : (b : Bool) → on r.head ≡ b → SpeakOfNoMoves (filter (λ r. not (on r.head)) rs) → SpeakOfNoMoves (if not b then r ∷ filter (λ r. not (on r.head)) rs else filter (λ r. not (on r.head)) rs)
    by true is rest = rest
    by false is rest = (all-off-moves on r.body (off.0 is), rest)

no-head : (on : ℕ → Bool) (rs : List (Rule ℕ ℕ)) (n : ℕ) → on n ≡ false → IsNoHead n (filter (λ r. on r.head) rs)
no-head on [] n off = tt
no-head on (r ∷ rs) n off = by (on r.head) refl (no-head on rs n off)
  where
    by : (b : Bool) → on r.head ≡ b → IsNoHead n (filter (λ r. on r.head) rs) → IsNoHead n (if b then r ∷ filter (λ r. on r.head) rs else filter (λ r. on r.head) rs)
    by true is rest = ((λ e. let f = ap on e in absurd cc), rest)
    by false is rest = rest

answer-off : (d : Description) (t : NameTable) (row : List Bool) (a : Derived) → ¬ (HasBarredHead d) → (bit row (atom_number t a) ≡ true → DependsOnGiven Derived (List ℕ) false d a) → IsAnswer a → bit row (atom_number t a) ≡ false
answer-off d t row (Legal r m) free set is = false_from_ne_true _ (λ h. free (Legal r m, set h))
answer-off d t row (Goal r n) free set is = false_from_ne_true _ (λ h. free (Goal r n, set h))
answer-off d t row Terminal free set is = false_from_ne_true _ (λ h. free (Terminal, set h))
answer-off d t row (Role r) free set is = absurd is
answer-off d t row (Init u) free set is = absurd is
answer-off d t row (Next u) free set is = absurd is
answer-off d t row (Other u) free set is = absurd is

-- splitting the rules by the row of dependence gives the two parts
split-of : (d : Description) (t : NameTable) (rules : List (Rule ℕ ℕ)) (atoms : ℕ) (row : List Bool) → IsTableOf d t → IsAcyclic d → ¬ (HasBarredHead d) → AreRankedOf d t rules → atoms ≡ length t.heads → row ≡ row_after (numbered [] []) (unset atoms) (exposed_rules false rules)
    → AreSplitOf d t (filter (λ r. not (bit row r.head)) rules) (filter (λ r. bit row r.head) rules)
split-of d t rules atoms row table acyclic free ranked size is =
    let on : ℕ → Bool = bit row in
    let fits : Fits (numbered [] []) (exposed_rules false rules) on =
    subst (λ (xs : List Bool). Fits (numbered [] []) (exposed_rules false rules) (bit xs)) (sym (is ∙ ap (λ n. row_after (numbered [] []) (unset n) (exposed_rules false rules)) size))
    (pass-fits (numbered [] []) ranked.rank (length t.heads) (exposed_rules false rules) (λ x y. refl) (exposed-ranked ranked.rank 0 (length t.heads) false rules ranked.ranked)) in
    let off : AreClosed on rules = closed on rules (λ a h. sym (fits a) ∙ h) in
    let depends = dependence-of d t false rules atoms row ranked size is in
    record {
      moved = IsPermutation-trans (resolved_rules t d) rules _ ranked.moved (IsPermutation-filter_both (λ r. not (on r.head)) (λ r. on r.head) (λ r. not-not (on r.head)) rules);
      rank = lifted ranked.rank (ranks-sum ranked.rank rules) on;
      ranked = split-ranked ranked.rank on (length t.heads) rules off ranked.ranked;
      no_moves = no-moves on rules off;
      answers = λ a is'. no-head on rules (atom_number t a) (answer-off d t row a free (λ h. set-depends t d false on a (heads-there t d table.heads') acyclic depends h) is');
    }
  where
    not-not : (b : Bool) → b ≡ not (not b)
    not-not true = refl
    not-not false = refl

rules-filter : (p : ℕ → Bool) (rs : List CodeRule) → rules_of (filter (λ r. p r.head) rs) ≡ filter (λ r. p r.head) (rules_of rs)
rules-filter p [] = refl
rules-filter p (r ∷ rs) = by (p r.head) (rules-filter p rs)
  where
    by : (b : Bool) → rules_of (filter (λ r. p r.head) rs) ≡ filter (λ r. p r.head) (rules_of rs) → rules_of (if b then r ∷ filter (λ r. p r.head) rs else filter (λ r. p r.head) rs) ≡ (if b then rule_of r ∷ filter (λ r. p r.head) (rules_of rs) else filter (λ r. p r.head) (rules_of rs))
    by true rest = ap (λ xs. rule_of r ∷ xs) rest
    by false rest = rest

pub split-by : (d : Description) (t : NameTable) (rules rest turn : List CodeRule) (row : List Bool) → IsTableOf d t → IsAcyclic d → ¬ (HasBarredHead d) → AreRankedOf d t (rules_of rules) → row ≡ row_after (numbered [] []) (unset (length t.heads)) (exposed_rules false (rules_of rules))
    → rest ≡ filter (λ r. not (bit row r.head)) rules → turn ≡ filter (λ r. bit row r.head) rules → AreSplitOf d t (rules_of rest) (rules_of turn)
split-by d t rules rest turn row table acyclic free ranked is rest_is turn_is =
    subst (λ (xs : List (Rule ℕ ℕ)). AreSplitOf d t xs (rules_of turn)) (sym (ap rules_of rest_is ∙ rules-filter (λ a. not (bit row a)) rules))
    (subst (λ (xs : List (Rule ℕ ℕ)). AreSplitOf d t (filter (λ r. not (bit row r.head)) (rules_of rules)) xs) (sym (ap rules_of turn_is ∙ rules-filter (bit row) rules))
    (split-of d t (rules_of rules) (length t.heads) row table acyclic free ranked refl is))
