-- Lists whose elements satisfy a condition that depends on their index.
use Rattle.std.proofs.Common.{◌≡◌, ℕ, zero, suc, List, [], ◌∷◌, ◌++◌, length, subst, sym}
use Rattle.role_workers.specs.Places.{EachAt}

push_at : {A : Type 0} (Q : ℕ → A → Type 0) (xs : List A) (x : A) → EachAt Q xs → Q (length xs) x → EachAt Q (xs ++ x ∷ [])
push_at Q [] x each here zero a is = let same : x ≡ a = cc in subst (Q 0) same here
push_at Q [] x each here (suc k) a is = absurd cc
push_at Q (y ∷ ys) x each here zero a is = each 0 a is
push_at Q (y ∷ ys) x each here (suc k) a is = push_at (λ n. Q (suc n)) ys x (λ n b e. each (suc n) b e) here k a is

pub EachAt-push : {A : Type 0} (Q : ℕ → A → Type 0) (xs xs' : List A) (x : A) → xs' ≡ xs ++ x ∷ [] → EachAt Q xs → Q (length xs) x → EachAt Q xs'
EachAt-push Q xs xs' x more each here = subst (EachAt Q) (sym more) (push_at Q xs x each here)
