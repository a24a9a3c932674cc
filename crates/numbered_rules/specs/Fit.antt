-- The fit: an assignment of truth values to the derived atoms that agrees with the rules.
use Rattle.std.specs.Prelude.{◌≡◌, Bool, true, false, not, ◌&&◌, ◌||◌, List, [], ◌∷◌}
use Rattle.numbered_rules.specs.Literals.{Literal, Holds, InState, Does, Distinct, Not, Or, Literals, End, More, Rule}

-- the given facts: which names are equal, which terms the state has, and which move each role makes
pub record Situation (A T : Type 0) : Type 0 where
  pub same : A → A → Bool
  pub same_term : T → T → Bool
  pub in_state : T → Bool
  pub does : T → T → Bool

-- whether a literal is true if v gives the truth values of the derived atoms
abbrev mutual
  pub truth : {A T : Type 0} → Situation A T → (A → Bool) → Literal A T → Bool
  truth w v (Holds a) = v a
  truth w v (InState t) = w.in_state t
  truth w v (Does r m) = w.does r m
  truth w v (Distinct t u) = not (w.same_term t u)
  truth w v (Not l) = not (truth w v l)
  truth w v (Or ls) = any_true w v ls

  pub any_true : {A T : Type 0} → Situation A T → (A → Bool) → Literals A T → Bool
  any_true w v End = false
  any_true w v (More l ls) = truth w v l || any_true w v ls

abbrev pub all_true : {A T : Type 0} → Situation A T → (A → Bool) → Literals A T → Bool
all_true w v End = true
all_true w v (More l ls) = truth w v l && all_true w v ls

-- whether all literals of some rule with this head are true
abbrev pub derived : {A T : Type 0} → Situation A T → (A → Bool) → List (Rule A T) → A → Bool
derived w v [] a = false
derived w v (r ∷ rs) a = (w.same r.head a && all_true w v r.body) || derived w v rs a

-- the assignment v fits: a derived atom is true if and only if some rule derives it
abbrev pub Fits : {A T : Type 0} → Situation A T → List (Rule A T) → (A → Bool) → Type 0
Fits w rules v = (a : _) → v a ≡ derived w v rules a

abbrev pub HasOneFit : {A T : Type 0} → Situation A T → List (Rule A T) → Type 0
HasOneFit {A} w rules = (v : A → Bool) × Fits w rules v × ((u : A → Bool) → Fits w rules u → (a : A) → u a ≡ v a)
