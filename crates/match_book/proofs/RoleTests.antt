-- Tests over the roles of a game.
use Rattle.std.proofs.Common.{◌≡◌, ◌≢◌, ℕ, zero, suc, ◌+◌, ◌<◌, ◌≤◌, Bool, true, false, eqb, Option, Some, None, List, [], ◌∷◌, ◌++◌, length, set, slice_index_or, refl, arith, ap, sym, ◌∙◌, subst, add-one, inl, inr, ◌⊎◌, length-append, length-set}
use Rattle.std.proofs.lemmas.List.{get_or_push, get_or_append_left, ext_get_or}
use Rattle.std.proofs.lemmas.Bool.Decides.{nat_tests}
use Rattle.std.specs.Prelude.{is_some, if◌then◌else◌}
use Rattle.std.specs.Option.{option_or}
use Rattle.match_book.specs.Roles.{every_role, lowest_role, of_each_role, at_role, is_there, blank}
use Rattle.match_book.specs.RoleStrikes.{count_roles}

pub same_or_other : (k r : ℕ) → (k ≡ r) ⊎ (k ≢ r)
same_or_other k r = step (eqb k r) refl
  where
    same : (k r : ℕ) → eqb k r ≡ true → k ≡ r
    same k r e = grind (arith, nat_tests)

    other : (k r : ℕ) → eqb k r ≡ false → k ≢ r
    other k r e = grind (arith, nat_tests)

    step : (b : Bool) → eqb k r ≡ b → (k ≡ r) ⊎ (k ≢ r)
    step true e = inl (same k r e)
    step false e = inr (other k r e)

pub lowest_role-more : (n : ℕ) (p : ℕ → Bool) → lowest_role n p ≡ None → p n ≡ false → lowest_role (n + 1) p ≡ None
lowest_role-more n p none not' = rw (add-one, none, not') refl

pub lowest_role-all : (n : ℕ) (p : ℕ → Bool) → ((k : ℕ) → k < n → p k ≡ false) → lowest_role n p ≡ None
lowest_role-all zero p none = refl
lowest_role-all (suc n) p none = rw (lowest_role-all n p (λ k lt. none k (omega arith)), none n (omega arith)) refl

some_first : (n k : ℕ) (p : ℕ → Bool) (o : Option ℕ) → o ≡ Some k → option_or o (if p n then Some n else None) ≡ Some k
some_first n k p o e = rw e refl

pub below_or_at : (k n : ℕ) → k < suc n → (k ≡ n) ⊎ (k < n)
below_or_at k n lt = grind arith

pub lowest_role-found : (n k : ℕ) (p : ℕ → Bool) → lowest_role k p ≡ None → p k ≡ true → k < n → lowest_role n p ≡ Some k
lowest_role-found zero k p none here lt = absurd (omega arith)
lowest_role-found (suc n) k p none here lt =
    elim (below_or_at k n lt) [
      | inl e ↦ subst (λ m. lowest_role (suc m) p ≡ Some k) e (rw (none, here) refl)
      | inr less ↦ some_first n k p (lowest_role n p) (lowest_role-found n k p none here less)
    ]

pub lowest_role-none : (n k : ℕ) (p : ℕ → Bool) → lowest_role n p ≡ None → k < n → p k ≡ false
lowest_role-none zero k p none lt = absurd (omega arith)
lowest_role-none (suc n) k p none lt =
    let parts = or_none n p (lowest_role n p) (p n) refl none in
    elim (below_or_at k n lt) [ inl e ↦ subst (λ m. p m ≡ false) (sym e) parts.1 | inr less ↦ lowest_role-none n k p parts.0 less ]
  where
    or_none : (n : ℕ) (p : ℕ → Bool) (o : Option ℕ) (b : Bool) → p n ≡ b → option_or o (if b then Some n else None) ≡ None → (o ≡ None) × (p n ≡ false)
    or_none n p None true is e = absurd cc
    or_none n p None false is e = (refl, is)
    or_none n p (Some x) b is e = absurd cc

-- all roles pass if and only if the number that pass is the number of roles
pub count_roles-le : (n : ℕ) (p : ℕ → Bool) → count_roles n p ≤ n
count_roles-le zero p = omega arith
count_roles-le (suc n) p = step n (count_roles n p) (p n) (count_roles-le n p)
  where
    step : (n c : ℕ) (b : Bool) → c ≤ n → (if b then c + 1 else c) ≤ suc n
    step n c true le = omega arith
    step n c false le = omega arith

pub every_role-count : (n : ℕ) (p : ℕ → Bool) → every_role n p ≡ eqb (count_roles n p) n
every_role-count zero p = refl
every_role-count (suc n) p = step n (count_roles n p) (every_role n p) (p n) (every_role-count n p) (count_roles-le n p)
  where
    less : (n c : ℕ) → c ≤ n → false ≡ eqb c (suc n)
    less n c le = grind (arith, nat_tests)

    same : (n c : ℕ) → eqb c n ≡ eqb (c + 1) (suc n)
    same n c = grind (arith, nat_tests)

    step : (n c : ℕ) (all b : Bool) → all ≡ eqb c n → c ≤ n → (if b then all else false) ≡ eqb (if b then c + 1 else c) (suc n)
    step n c all true e le = e ∙ same n c
    step n c all false e le = less n c le

pub count_roles-same : (n : ℕ) (p q : ℕ → Bool) → ((k : ℕ) → k < n → q k ≡ p k) → count_roles n q ≡ count_roles n p
count_roles-same zero p q same = refl
count_roles-same (suc n) p q same = rw (same n (omega arith), count_roles-same n p q (λ k lt. same k (omega arith))) refl

pub count_roles-more : (n r : ℕ) (p q : ℕ → Bool) → r < n → p r ≡ false → q r ≡ true → ((k : ℕ) → k < n → k ≢ r → q k ≡ p k) → count_roles n q ≡ count_roles n p + 1
count_roles-more zero r p q lt out in' others = absurd (omega arith)
count_roles-more (suc n) r p q lt out in' others =
    elim (below_or_at r n lt) [
      | inl e ↦
          let here : q n ≡ true = subst (λ k. q k ≡ true) e in' in
          let there : p n ≡ false = subst (λ k. p k ≡ false) e out in
          rw (here, there, count_roles-same n p q (λ k less. others k (omega arith) (λ w. omega arith))) refl
      | inr less ↦ at_other n r p q less (others n (omega arith) (λ w. omega arith)) (count_roles-more n r p q less out in' (λ k below ne. others k (omega arith) ne))
    ]
  where
    step : (c d : ℕ) (b : Bool) → d ≡ c + 1 → (if b then d + 1 else d) ≡ (if b then c + 1 else c) + 1
    step c d true e = omega arith
    step c d false e = e

    at_other : (n r : ℕ) (p q : ℕ → Bool) → r < n → q n ≡ p n → count_roles n q ≡ count_roles n p + 1 → count_roles (suc n) q ≡ count_roles (suc n) p + 1
    at_other n r p q less same more = rw same (step (count_roles n p) (count_roles n q) (p n) more)

pub count_roles-none : (n : ℕ) (p : ℕ → Bool) → ((k : ℕ) → k < n → p k ≡ false) → count_roles n p ≡ 0
count_roles-none zero p none = refl
count_roles-none (suc n) p none = rw (none n (omega arith)) (count_roles-none n p (λ k lt. none k (omega arith)))

pub every_role-at : (n k : ℕ) (p : ℕ → Bool) → every_role n p ≡ true → k < n → p k ≡ true
every_role-at zero k p all lt = absurd (omega arith)
every_role-at (suc n) k p all lt =
    let parts = both (every_role n p) (p n) all in
    elim (below_or_at k n lt) [ inl e ↦ subst (λ m. p m ≡ true) (sym e) parts.1 | inr less ↦ every_role-at n k p parts.0 less ]
  where
    both : (all b : Bool) → (if b then all else false) ≡ true → (all ≡ true) × (b ≡ true)
    both all true e = (e, refl)
    both all false e = absurd cc

pub at_role-blank : (A : Type 0) (n k : ℕ) → at_role {A = A} (blank n) k ≡ None
at_role-blank A zero k = refl
at_role-blank A (suc n) zero = refl
at_role-blank A (suc n) (suc k) = at_role-blank A n k

pub is_there-blank : (A : Type 0) (n k : ℕ) → is_there {A = A} (blank n) k ≡ false
is_there-blank A n k = ap is_some (at_role-blank A n k)

pub at_role-set : {A : Type 0} (xs : List (Option A)) (r : ℕ) (x : Option A) → r < length xs → at_role (set xs r x) r ≡ x
at_role-set [] r x lt = absurd (omega arith)
at_role-set (y ∷ ys) zero x lt = refl
at_role-set (y ∷ ys) (suc r) x lt = at_role-set ys r x (omega arith)

pub at_role-other : {A : Type 0} (xs : List (Option A)) (r k : ℕ) (x : Option A) → k ≢ r → at_role (set xs r x) k ≡ at_role xs k
at_role-other [] r k x ne = refl
at_role-other (y ∷ ys) zero zero x ne = absurd (ne refl)
at_role-other (y ∷ ys) zero (suc k) x ne = refl
at_role-other (y ∷ ys) (suc r) zero x ne = refl
at_role-other (y ∷ ys) (suc r) (suc k) x ne = at_role-other ys r k x (λ e. ne (ap suc e))

pub count-set : {A : Type 0} (xs : List (Option A)) (n r : ℕ) (x : A) → length xs ≡ n → r < n → is_there xs r ≡ false → count_roles n (is_there (set xs r (Some x))) ≡ count_roles n (is_there xs) + 1
count-set xs n r x wide lt free =
    count_roles-more n r (is_there xs) (is_there (set xs r (Some x))) lt free (ap is_some (at_role-set xs r (Some x) (omega arith))) (λ k below ne. ap is_some (at_role-other xs r k (Some x) ne))

pub count-blank : (A : Type 0) (n : ℕ) → count_roles n (is_there {A = A} (blank n)) ≡ 0
count-blank A n = count_roles-none n (is_there (blank n)) (λ k lt. is_there-blank A n k)

pub at_role-push : {A : Type 0} (xs : List (Option A)) (n : ℕ) (x : Option A) (f : ℕ → Option A) → length xs ≡ n → ((r : ℕ) → r < n → at_role xs r ≡ f r) → x ≡ f n
    → (r : ℕ) → r < n + 1 → at_role (xs ++ x ∷ []) r ≡ f r
at_role-push xs n x f wide so_far here r lt =
    elim (below_or_at r n (omega arith)) [
      | inl e ↦ subst (λ m. at_role (xs ++ x ∷ []) m ≡ f m) (sym e) (subst (λ m. at_role (xs ++ x ∷ []) m ≡ f n) wide (at_end xs x ∙ here))
      | inr less ↦ before xs x r (omega arith) ∙ so_far r less
    ]
  where
    at_end : {A : Type 0} (xs : List (Option A)) (x : Option A) → at_role (xs ++ x ∷ []) (length xs) ≡ x
    at_end [] x = refl
    at_end (y ∷ ys) x = at_end ys x

    before : {A : Type 0} (xs : List (Option A)) (x : Option A) (r : ℕ) → r < length xs → at_role (xs ++ x ∷ []) r ≡ at_role xs r
    before [] x r lt = absurd (omega arith)
    before (y ∷ ys) x zero lt = refl
    before (y ∷ ys) x (suc r) lt = before ys x r (omega arith)

pub get-push : {A : Type 0} (xs : List A) (n : ℕ) (f : ℕ → A) → length xs ≡ n → ((r : ℕ) (d : A) → r < n → slice_index_or xs r d ≡ f r) → (r : ℕ) (d : A) → r < n + 1 → slice_index_or (xs ++ f n ∷ []) r d ≡ f r
get-push xs n f wide so_far r d lt =
    elim (below_or_at r n (omega arith)) [
      | inl e ↦ subst (λ m. slice_index_or (xs ++ f n ∷ []) m d ≡ f m) (sym e) (get_or_push xs (f n) d n wide)
      | inr less ↦ get_or_append_left xs (f n ∷ []) d r (omega arith) ∙ so_far r d less
    ]

pub every_role-all : (n : ℕ) (p : ℕ → Bool) → ((k : ℕ) → k < n → p k ≡ true) → every_role n p ≡ true
every_role-all zero p all = refl
every_role-all (suc n) p all = rw (all n (omega arith)) (every_role-all n p (λ k lt. all k (omega arith)))

pub every_role-but : (n k : ℕ) (p : ℕ → Bool) → k < n → p k ≡ false → every_role n p ≡ false
every_role-but n k p lt out = step n k p (every_role n p) refl lt out
  where
    step : (n k : ℕ) (p : ℕ → Bool) (b : Bool) → every_role n p ≡ b → k < n → p k ≡ false → b ≡ false
    step n k p true is lt out = let here = every_role-at n k p is lt in absurd cc
    step n k p false is lt out = refl

pub blank-all : {A : Type 0} (xs : List (Option A)) → ((k : ℕ) → k < length xs → at_role xs k ≡ None) → xs ≡ blank (length xs)
blank-all [] none = refl
blank-all (x ∷ xs) none =
    let head : x ≡ None = none 0 (omega arith) in
    let tail = blank-all xs (λ k lt. none (suc k) (omega arith)) in
    cc

pub is_there-read : {A : Type 0} (xs : List (Option A)) (k : ℕ) (x : Option A) → x ≡ slice_index_or xs k x → is_some x ≡ false → is_there xs k ≡ false
is_there-read [] k x read none = refl
is_there-read (y ∷ ys) zero x read none = ap is_some (sym read) ∙ none
is_there-read (y ∷ ys) (suc k) x read none = is_there-read ys k x read none

pub every_role-same : (n : ℕ) (p q : ℕ → Bool) → ((k : ℕ) → k < n → q k ≡ p k) → every_role n q ≡ every_role n p
every_role-same zero p q same = refl
every_role-same (suc n) p q same = rw (same n (omega arith), every_role-same n p q (λ k lt. same k (omega arith))) refl

pub length-of_each_role : {A : Type 0} (n : ℕ) (f : ℕ → A) → length (of_each_role n f) ≡ n
length-of_each_role zero f = refl
length-of_each_role (suc n) f = length-append (of_each_role n f) (f n ∷ []) ∙ (ap (λ k. k + 1) (length-of_each_role n f) ∙ add-one n)

pub get-of_each_role : {A : Type 0} (n : ℕ) (f : ℕ → A) (r : ℕ) (d : A) → r < n → slice_index_or (of_each_role n f) r d ≡ f r
get-of_each_role zero f r d lt = absurd (omega arith)
get-of_each_role (suc n) f r d lt = get-push (of_each_role n f) n f (length-of_each_role n f) (get-of_each_role n f) r d (omega arith)

pub of_each_role-push : {A : Type 0} (n : ℕ) (f : ℕ → A) (x : A) → x ≡ f n → of_each_role n f ++ x ∷ [] ≡ of_each_role (n + 1) f
of_each_role-push n f x here = rw (add-one n) (ap (λ y. of_each_role n f ++ y ∷ []) here)

pub of_each_role-same : {A : Type 0} (n : ℕ) (f h : ℕ → A) → ((k : ℕ) → k < n → h k ≡ f k) → of_each_role n h ≡ of_each_role n f
of_each_role-same zero f h same = refl
of_each_role-same (suc n) f h same = rw (same n (omega arith), of_each_role-same n f h (λ k lt. same k (omega arith))) refl

pub of_each_role-set : {A : Type 0} (n r : ℕ) (f h : ℕ → Option A) (x : Option A) → h r ≡ x → ((k : ℕ) → k < n → k ≢ r → h k ≡ f k) → set (of_each_role n f) r x ≡ of_each_role n h
of_each_role-set n r f h x here others =
    ext_get_or None (set (of_each_role n f) r x) (of_each_role n h) (length-set (of_each_role n f) r x ∙ (length-of_each_role n f ∙ sym (length-of_each_role n h)))
    (λ k within.
    let lt : k < n = omega (arith, length-set (of_each_role n f) r x, length-of_each_role n f) in
    elim (same_or_other k r) [
      | inl same ↦
          subst (λ (q : ℕ). at_role (set (of_each_role n f) r x) q ≡ at_role (of_each_role n h) q) (sym same)
          (at_role-set (of_each_role n f) r x (omega (arith, length-of_each_role n f)) ∙ (sym here ∙ sym (get-of_each_role n h r None (omega arith))))
      | inr other ↦ at_role-other (of_each_role n f) r k x other ∙ (get-of_each_role n f k None lt ∙ (sym (others k lt other) ∙ sym (get-of_each_role n h k None lt)))
    ])
