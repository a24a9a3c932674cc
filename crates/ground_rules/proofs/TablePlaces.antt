-- Places in a table of names.
use Rattle.std.proofs.Common.{◌≡◌, ℕ, suc, ◌<◌, Bool, true, false, ◌||◌, if◌then◌else◌, List, [], ◌∷◌, length, get_or, refl, sym, ap, ◌∙◌, arith, nat_eq, nat_lt, not, ◌+◌, Some, None, unwrap_or}
use Rattle.std.specs.List.{list_any, prefix_len, position}
use Rattle.std.proofs.lemmas.Bool.Decides.{nat_tests}
use Rattle.ground_rules.specs.Lawfulness.Bools.{bool-same}
use Rattle.ground_rules.specs.Lawfulness.Names.{number-sound, number-same}
use Rattle.ground_rules.specs.Internal.Resolved.{place}

-- a test that decides equality
pub record Decides {A : Type 0} (same : A → A → Bool) : Type 0 where
  pub sound : (x y : A) → same x y ≡ true → x ≡ y
  pub itself : (x : A) → same x x ≡ true

within-by : {A : Type 0} (same : A → A → Bool) (y : A) (ys : List A) (x : A) (b : Bool) → (list_any (same x) ys ≡ true → place same ys x < length ys) → (b || list_any (same x) ys) ≡ true → (if b then 0 else suc (place same ys x)) < suc (length ys)
within-by same y ys x true rest h = omega arith
within-by same y ys x false rest h = let lt = rest h in omega arith

pub place-within : {A : Type 0} (same : A → A → Bool) (xs : List A) (x : A) → list_any (same x) xs ≡ true → place same xs x < length xs
place-within same [] x h = absurd cc
place-within same (y ∷ ys) x h = within-by same y ys x (same x y) (place-within same ys x) h

one-by : {A : Type 0} (same : A → A → Bool) → Decides same → (z : A) (zs : List A) (x y : A) (b c : Bool) → same x z ≡ b → same y z ≡ c → (place same zs x < length zs → place same zs x ≡ place same zs y → x ≡ y)
    → (if b then 0 else suc (place same zs x)) < suc (length zs) → (if b then 0 else suc (place same zs x)) ≡ (if c then 0 else suc (place same zs y)) → x ≡ y
one-by same d z zs x y true true is is' rest lt e = d.sound x z is ∙ sym (d.sound y z is')
one-by same d z zs x y true false is is' rest lt e = absurd (omega (arith, e))
one-by same d z zs x y false true is is' rest lt e = absurd (omega (arith, e))
one-by same d z zs x y false false is is' rest lt e = rest (omega (arith, lt)) (omega (arith, e))

-- two names with the same place within the table are equal
pub place-one : {A : Type 0} (same : A → A → Bool) → Decides same → (xs : List A) (x y : A) → place same xs x < length xs → place same xs x ≡ place same xs y → x ≡ y
place-one same d [] x y lt e = absurd (omega (arith, lt))
place-one same d (z ∷ zs) x y lt e = one-by same d z zs x y (same x z) (same y z) refl refl (place-one same d zs x y) lt e

at-by : {A : Type 0} (same : A → A → Bool) → Decides same → (z : A) (zs : List A) (x d : A) (b : Bool) → same x z ≡ b → (place same zs x < length zs → get_or zs (place same zs x) d ≡ x)
    → (if b then 0 else suc (place same zs x)) < suc (length zs) → get_or (z ∷ zs) (if b then 0 else suc (place same zs x)) d ≡ x
at-by same dec z zs x d true is rest lt = sym (dec.sound x z is)
at-by same dec z zs x d false is rest lt = rest (omega (arith, lt))

-- the name at a name's place is that name
pub place-at : {A : Type 0} (same : A → A → Bool) → Decides same → (xs : List A) (x d : A) → place same xs x < length xs → get_or xs (place same xs x) d ≡ x
place-at same dec [] x d lt = absurd (omega (arith, lt))
place-at same dec (z ∷ zs) x d lt = at-by same dec z zs x d (same x z) refl (place-at same dec zs x d) lt

-- if one of two names is in the table, the names are equal if and only if their places are
pub place-same : {A : Type 0} (same : A → A → Bool) → Decides same → (xs : List A) (x y : A) → place same xs x < length xs → same x y ≡ nat_eq (place same xs x) (place same xs y)
place-same same d xs x y lt =
    bool-same (same x y) (nat_eq (place same xs x) (place same xs y))
    (λ is. number-same _ _ (ap (place same xs) (d.sound x y is)))
    (λ e. ap (same x) (sym (place-one same d xs x y lt (number-sound _ _ e))) ∙ d.itself x)

le-by : (b : Bool) (n m : ℕ) → n < suc m → (if b then 0 else suc n) < suc (suc m)
le-by true n m lt = omega arith
le-by false n m lt = omega (arith, lt)

pub place-most : {A : Type 0} (same : A → A → Bool) (xs : List A) (x : A) → place same xs x < suc (length xs)
place-most same [] x = omega arith
place-most same (y ∷ ys) x = le-by (same x y) (place same ys x) (length ys) (place-most same ys x)

prefix-place : {A : Type 0} (p : A → Bool) (same : A → A → Bool) (x : A) (xs : List A) → ((y : A) → p y ≡ same x y) → prefix_len (λ y. not (p y)) xs ≡ place same xs x
prefix-place p same x [] tests = refl
prefix-place p same x (y ∷ ys) tests = rw (tests y) (by-head (same x y) (prefix-place p same x ys tests))
  where
    by-head : (b : Bool) → prefix_len (λ z. not (p z)) ys ≡ place same ys x → (if not b then 1 + prefix_len (λ z. not (p z)) ys else 0) ≡ (if b then 0 else suc (place same ys x))
    by-head true e = refl
    by-head false e = omega (arith, e)

unwrapped : (n m : ℕ) → n < suc m → (b : Bool) → nat_lt n m ≡ b → unwrap_or (if b then Some n else None) m ≡ n
unwrapped n m le true is = refl
unwrapped n m le false is = grind (arith, nat_tests)

-- a lookup finds the first place of the name, or the length of the list if the name is not in it
pub place-found : {A : Type 0} (p : A → Bool) (same : A → A → Bool) (x : A) (xs : List A) → ((y : A) → p y ≡ same x y) → unwrap_or (position p xs) (length xs) ≡ place same xs x
place-found p same x xs tests =
    let e = prefix-place p same x xs tests in
    let le : prefix_len (λ y. not (p y)) xs < suc (length xs) = omega (arith, e, place-most same xs x) in
    unwrapped (prefix_len (λ y. not (p y)) xs) (length xs) le (nat_lt (prefix_len (λ y. not (p y)) xs) (length xs)) refl ∙ e
