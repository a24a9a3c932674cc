-- Lists, index by index.
use Rattle.std.proofs.Common.{◌≡◌, ℕ, zero, suc, ◌+◌, ◌<◌, List, [], ◌∷◌, ◌++◌, Some, length, map, drop, refl, subst, sym, ap, ◌∙◌, arith}
use Rattle.std.specs.Prelude.{slice_get}
use Rattle.role_workers.specs.Places.{EachAt}

push_at : {A : Type 0} (Q : ℕ → A → Type 0) (xs : List A) (x : A) → EachAt Q xs → Q (length xs) x → EachAt Q (xs ++ x ∷ [])
push_at Q [] x each here zero a is = let same : x ≡ a = cc in subst (Q 0) same here
push_at Q [] x each here (suc k) a is = absurd cc
push_at Q (y ∷ ys) x each here zero a is = each 0 a is
push_at Q (y ∷ ys) x each here (suc k) a is = push_at (λ n. Q (suc n)) ys x (λ n b e. each (suc n) b e) here k a is

pub EachAt-push : {A : Type 0} (Q : ℕ → A → Type 0) (xs xs' : List A) (x : A) → xs' ≡ xs ++ x ∷ [] → EachAt Q xs → Q (length xs) x → EachAt Q xs'
EachAt-push Q xs xs' x more each here = subst (EachAt Q) (sym more) (push_at Q xs x each here)

-- the first element after n others has index n
pub record FirstOf {A : Type 0} (n : ℕ) (all : List A) (x : A) (rest : List A) : Type 0 where
  pub at : slice_get all n ≡ Some x
  pub left : rest ≡ drop (n + 1) all
  pub within : n < length all

behind : {A : Type 0} (n : ℕ) (all : List A) (x : A) (rest : List A) → x ∷ rest ≡ drop n all → (slice_get all n ≡ Some x) × (rest ≡ drop (suc n) all) × (n < length all)
behind zero [] x rest e = absurd cc
behind zero (y ∷ ys) x rest e = (cc, cc, omega arith)
behind (suc n) [] x rest e = absurd cc
behind (suc n) (y ∷ ys) x rest e = let later = behind n ys x rest e in (later.0, later.1, omega (arith, later.2))

pub first_of : {A : Type 0} (n : ℕ) (all : List A) (x : A) (rest : List A) → x ∷ rest ≡ drop n all → FirstOf n all x rest
first_of n all x rest e =
    let found = behind n all x rest e in
    let next : suc n ≡ n + 1 = omega arith in
    record { at = found.0; left = found.1 ∙ ap (λ m. drop m all) next; within = found.2 }

pub map_at : {A B : Type 0} (f : A → B) (xs : List A) (k : ℕ) (b : B) → slice_get (map f xs) k ≡ Some b → (a : A) × (slice_get xs k ≡ Some a) × (f a ≡ b)
map_at f [] k b is = absurd cc
map_at f (x ∷ xs) zero b is = (x, refl, cc)
map_at f (x ∷ xs) (suc k) b is = map_at f xs k b is
