-- The heads, each once, and their places.
use Rattle.std.proofs.Common.{◌≡◌, ℕ, suc, ◌+◌, ◌<◌, ◌⊎◌, inl, inr, Bool, true, false, ◌||◌, if◌then◌else◌, List, [], ◌∷◌, ◌++◌, length, get_or, map, refl, sym, ap, ◌∙◌, arith, length-append}
use Rattle.std.specs.List.{list_any}
use Rattle.std.proofs.lemmas.Bool.{cases_order}
use Rattle.std.proofs.lemmas.List.{get_or_append_left, get_or_push}
use Rattle.rule_sentences.specs.declared.sentence.Derived.{Derived}
use Rattle.ground_rules.specs.Lawfulness.Bools.{or-left, or-right}
use Rattle.rule_sentences.specs.Descriptions.{Description, same_derived, with_new, with_all_new, heads}
use Rattle.ground_rules.specs.Internal.Resolved.{NameTable, place}
use Rattle.ground_rules.proofs.TablePlaces.{Decides, place-within}
use Rattle.ground_rules.proofs.Transfer.{HaveHeads, derived-decides}

last_or : (k n : ℕ) → k < n + 1 → (k < n) ⊎ (k ≡ n)
last_or k n lt = elim (cases_order k n) [ inl e ↦ inr e | inr f ↦ elim f [ inl g ↦ inl g | inr g ↦ absurd (omega arith) ] ]

any-append : {A : Type 0} (p : A → Bool) (xs ys : List A) → list_any p ys ≡ true → list_any p (xs ++ ys) ≡ true
any-append p [] ys h = h
any-append p (x ∷ xs) ys h = or-right _ _ (any-append p xs ys h)

any-front : {A : Type 0} (p : A → Bool) (xs ys : List A) → list_any p xs ≡ true → list_any p (xs ++ ys) ≡ true
any-front p [] ys h = absurd cc
any-front p (x ∷ xs) ys h = by-head (p x) (any-front p xs ys) h
  where
    by-head : (b : Bool) → (list_any p xs ≡ true → list_any p (xs ++ ys) ≡ true) → (b || list_any p xs) ≡ true → (b || list_any p (xs ++ ys)) ≡ true
    by-head true rest e = refl
    by-head false rest e = rest e

new-keeps : {A : Type 0} (same : A → A → Bool) (p : A → Bool) (seen : List A) (x : A) (b : Bool) → list_any p seen ≡ true → list_any p (if b then seen else seen ++ x ∷ []) ≡ true
new-keeps same p seen x true h = h
new-keeps same p seen x false h = any-front p seen (x ∷ []) h

all-new-keeps : {A : Type 0} (same : A → A → Bool) (p : A → Bool) (seen xs : List A) → list_any p seen ≡ true → list_any p (with_all_new same seen xs) ≡ true
all-new-keeps same p seen [] h = h
all-new-keeps same p seen (x ∷ xs) h = all-new-keeps same p (with_new same seen x) xs (new-keeps same p seen x (list_any (same x) seen) h)

new-has : {A : Type 0} (same : A → A → Bool) → Decides same → (seen : List A) (x : A) (b : Bool) → list_any (same x) seen ≡ b → list_any (same x) (if b then seen else seen ++ x ∷ []) ≡ true
new-has same d seen x true is = is
new-has same d seen x false is = any-append (same x) seen (x ∷ []) (or-left _ _ (d.itself x))

have-heads : (names : NameTable) (d : Description) (seen : List Derived) → names.heads ≡ with_all_new same_derived seen (map (λ r. r.head) d) → HaveHeads names d
have-heads names [] seen e = tt
have-heads names (r ∷ rs) seen e =
    let next = with_new same_derived seen r.head in
    let there = all-new-keeps same_derived (same_derived r.head) next (map (λ q. q.head) rs) (new-has same_derived derived-decides seen r.head (list_any (same_derived r.head) seen) refl) in
    (place-within same_derived names.heads r.head (ap (list_any (same_derived r.head)) e ∙ there), have-heads names rs next e)

pub heads-there : (names : NameTable) (d : Description) → names.heads ≡ heads d → HaveHeads names d
heads-there names d e = have-heads names d [] e

-- the first place of each member is its index
abbrev pub AreOnce : {A : Type 0} → (A → A → Bool) → List A → Type 0
AreOnce {A} same xs = (k : ℕ) (d : A) → k < length xs → place same xs (get_or xs k d) ≡ k

left-by : (b : Bool) (m n l : ℕ) → (n < l → m ≡ n) → (if b then 0 else suc n) < suc l → (if b then 0 else suc m) ≡ (if b then 0 else suc n)
left-by true m n l rest lt = refl
left-by false m n l rest lt = ap suc (rest (omega (arith, lt)))

place-front : {A : Type 0} (same : A → A → Bool) (xs ys : List A) (x : A) → place same xs x < length xs → place same (xs ++ ys) x ≡ place same xs x
place-front same [] ys x lt = absurd (omega (arith, lt))
place-front same (z ∷ zs) ys x lt = left-by (same x z) (place same (zs ++ ys) x) (place same zs x) (length zs) (place-front same zs ys x) lt

place-new : {A : Type 0} (same : A → A → Bool) → Decides same → (xs : List A) (x : A) → list_any (same x) xs ≡ false → place same (xs ++ x ∷ []) x ≡ length xs
place-new same d [] x h = rw (d.itself x) refl
place-new same d (z ∷ zs) x h = by-head (same x z) (place-new same d zs x) h
  where
    by-head : (b : Bool) → (list_any (same x) zs ≡ false → place same (zs ++ x ∷ []) x ≡ length zs) → (b || list_any (same x) zs) ≡ false → (if b then 0 else suc (place same (zs ++ x ∷ []) x)) ≡ suc (length zs)
    by-head true rest e = absurd cc
    by-head false rest e = ap suc (rest e)

once-push : {A : Type 0} (same : A → A → Bool) → Decides same → (xs : List A) (x : A) → AreOnce same xs → list_any (same x) xs ≡ false → AreOnce same (xs ++ x ∷ [])
once-push {A} same dec xs x once new k d lt =
    let size = length-append xs (x ∷ []) in
    elim (last_or k (length xs) (omega (arith, size, lt))) [
      | inl h ↦
          let at : get_or (xs ++ x ∷ []) k d ≡ get_or xs k d = get_or_append_left xs (x ∷ []) d k h in
          let own = once k d h in
          ap (place same (xs ++ x ∷ [])) at ∙ place-front same xs (x ∷ []) (get_or xs k d) (omega (arith, own, h)) ∙ own
      | inr e ↦
          let at : get_or (xs ++ x ∷ []) k d ≡ x = get_or_push xs x d k (sym e) in
          ap (place same (xs ++ x ∷ [])) at ∙ place-new same dec xs x new ∙ sym e
    ]

once-new : {A : Type 0} (same : A → A → Bool) → Decides same → (seen : List A) (x : A) (b : Bool) → list_any (same x) seen ≡ b → AreOnce same seen → AreOnce same (if b then seen else seen ++ x ∷ [])
once-new same d seen x true is once = once
once-new same d seen x false is once = once-push same d seen x once is

once-all : {A : Type 0} (same : A → A → Bool) → Decides same → (seen xs : List A) → AreOnce same seen → AreOnce same (with_all_new same seen xs)
once-all same d seen [] once = once
once-all same d seen (x ∷ xs) once = once-all same d (with_new same seen x) xs (once-new same d seen x (list_any (same x) seen) refl once)

pub heads-once : (d : Description) → AreOnce same_derived (heads d)
heads-once d = once-all same_derived derived-decides [] (map (λ r. r.head) d) (λ k e lt. absurd (omega (arith, lt)))
