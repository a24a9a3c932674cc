-- An acyclic description has exactly one fit.
use Rattle.std.proofs.Common.{ℕ, zero, suc, ◌<◌, ◌≡◌, Bool, true, false, not, ◌&&◌, List, [], ◌∷◌, refl, ap, sym, ◌∙◌, arith}
use Rattle.numbered_rules.specs.Literals.{Literal, Literals, End, More, Holds, InState, Does, Distinct, Not, Or, Rule, AtomsAre, AllAtomsAre}
use Rattle.numbered_rules.specs.Fit.{Situation, truth, any_true, all_true, derived, Fits, HasOneFit}
use Rattle.ground_rules.specs.Acyclic.{IsNumbering, IsAcyclic}

mutual
  pub truth-agree : {A T : Type 0} (w : Situation A T) (u v : A → Bool) (l : Literal A T) → AtomsAre (λ a. u a ≡ v a) l → truth w u l ≡ truth w v l
  truth-agree w u v (Holds a) h = h
  truth-agree w u v (InState t) h = refl
  truth-agree w u v (Does r m) h = refl
  truth-agree w u v (Distinct s t) h = refl
  truth-agree w u v (Not l) h = ap not (truth-agree w u v l h)
  truth-agree w u v (Or ls) h = any-agree w u v ls h

  pub any-agree : {A T : Type 0} (w : Situation A T) (u v : A → Bool) (ls : Literals A T) → AllAtomsAre (λ a. u a ≡ v a) ls → any_true w u ls ≡ any_true w v ls
  any-agree w u v End h = refl
  any-agree w u v (More l ls) h = let e = truth-agree w u v l h.0 in let f = any-agree w u v ls h.1 in cc

pub all-agree : {A T : Type 0} (w : Situation A T) (u v : A → Bool) (ls : Literals A T) → AllAtomsAre (λ a. u a ≡ v a) ls → all_true w u ls ≡ all_true w v ls
all-agree w u v End h = refl
all-agree w u v (More l ls) h = let e = truth-agree w u v l h.0 in let f = all-agree w u v ls h.1 in cc

mutual
  pub atoms-weaken : {A T : Type 0} (P Q : A → Type 0) (l : Literal A T) → ((a : A) → P a → Q a) → AtomsAre P l → AtomsAre Q l
  atoms-weaken P Q (Holds a) f h = f a h
  atoms-weaken P Q (InState t) f h = tt
  atoms-weaken P Q (Does r m) f h = tt
  atoms-weaken P Q (Distinct s t) f h = tt
  atoms-weaken P Q (Not l) f h = atoms-weaken P Q l f h
  atoms-weaken P Q (Or ls) f h = all_atoms-weaken P Q ls f h

  pub all_atoms-weaken : {A T : Type 0} (P Q : A → Type 0) (ls : Literals A T) → ((a : A) → P a → Q a) → AllAtomsAre P ls → AllAtomsAre Q ls
  all_atoms-weaken P Q End f h = tt
  all_atoms-weaken P Q (More l ls) f h = (atoms-weaken P Q l f h.0, all_atoms-weaken P Q ls f h.1)

rule-agree : {A T : Type 0} (w : Situation A T) (number : A → ℕ) (u v : A → Bool) (r : Rule A T) (a : A) → ((x y : A) → w.same x y ≡ true → x ≡ y) → AllAtomsAre (λ b. number b < number r.head) r.body → ((b : A) → number b < number a → u b ≡ v b) → (test : Bool) → w.same r.head a ≡ test → (test && all_true w u r.body) ≡ (test && all_true w v r.body)
rule-agree w number u v r a sound ranked lower false is = refl
rule-agree w number u v r a sound ranked lower true is =
    let e = ap number (sound r.head a is) in
    all-agree w u v r.body (all_atoms-weaken (λ b. number b < number r.head) (λ b. u b ≡ v b) r.body (λ b below. lower b (omega (arith, e))) ranked)

-- two assignments that agree on lower atoms derive the same truth value for a
pub derived-agree : {A T : Type 0} (w : Situation A T) (number : A → ℕ) (u v : A → Bool) (rules : List (Rule A T)) (a : A) → ((x y : A) → w.same x y ≡ true → x ≡ y) → IsNumbering number rules → ((b : A) → number b < number a → u b ≡ v b) → derived w u rules a ≡ derived w v rules a
derived-agree w number u v [] a sound ranked lower = refl
derived-agree w number u v (r ∷ rs) a sound ranked lower =
    let rest = derived-agree w number u v rs a sound ranked.1 lower in
    let first = rule-agree w number u v r a sound ranked.0 lower (w.same r.head a) refl in
    cc

fits-below : {A T : Type 0} (w : Situation A T) (number : A → ℕ) (u v : A → Bool) (rules : List (Rule A T)) → ((x y : A) → w.same x y ≡ true → x ≡ y) → IsNumbering number rules → Fits w rules u → Fits w rules v → (k : ℕ) (a : A) → number a < k → u a ≡ v a
fits-below w number u v rules sound ranked fu fv zero a below = absurd (omega arith)
fits-below w number u v rules sound ranked fu fv (suc k) a below =
    fu a ∙ (derived-agree w number u v rules a sound ranked (λ b lower. fits-below w number u v rules sound ranked fu fv k b (omega arith)) ∙ sym (fv a))

-- at most one assignment fits
pub fits-unique : {A T : Type 0} (w : Situation A T) (number : A → ℕ) (u v : A → Bool) (rules : List (Rule A T)) → ((x y : A) → w.same x y ≡ true → x ≡ y) → IsNumbering number rules → Fits w rules u → Fits w rules v → (a : A) → u a ≡ v a
fits-unique w number u v rules sound ranked fu fv a = fits-below w number u v rules sound ranked fu fv (suc (number a)) a (omega arith)

-- the truth of an atom, found in at most this many steps
abbrev pub found : {A T : Type 0} → Situation A T → List (Rule A T) → ℕ → A → Bool
found w rules zero a = false
found w rules (suc k) a = derived w (found w rules k) rules a

found-same : {A T : Type 0} (w : Situation A T) (number : A → ℕ) (rules : List (Rule A T)) → ((x y : A) → w.same x y ≡ true → x ≡ y) → IsNumbering number rules → (j k : ℕ) (a : A) → number a < j → number a < k → found w rules j a ≡ found w rules k a
found-same w number rules sound ranked zero k a lj lk = absurd (omega arith)
found-same w number rules sound ranked (suc j) zero a lj lk = absurd (omega arith)
found-same w number rules sound ranked (suc j) (suc k) a lj lk =
    derived-agree w number (found w rules j) (found w rules k) rules a sound ranked (λ b lower. found-same w number rules sound ranked j k b (omega arith) (omega arith))

found-fits : {A T : Type 0} (w : Situation A T) (number : A → ℕ) (rules : List (Rule A T)) → ((x y : A) → w.same x y ≡ true → x ≡ y) → IsNumbering number rules → Fits w rules (λ a. found w rules (suc (number a)) a)
found-fits w number rules sound ranked a =
    derived-agree w number (found w rules (number a)) (λ b. found w rules (suc (number b)) b) rules a sound ranked
    (λ b lower. found-same w number rules sound ranked (number a) (suc (number b)) b lower (omega arith))

pub one_fit : {A T : Type 0} (w : Situation A T) (rules : List (Rule A T)) → ((x y : A) → w.same x y ≡ true → x ≡ y) → IsAcyclic rules → HasOneFit w rules
one_fit {A} w rules sound acyclic =
    let v : A → Bool = λ a. found w rules (suc (acyclic.0 a)) a in
    let fits : Fits w rules v = found-fits w acyclic.0 rules sound acyclic.1 in
    (v, fits, λ u fu a. fits-unique w acyclic.0 u v rules sound acyclic.1 fu fits a)
