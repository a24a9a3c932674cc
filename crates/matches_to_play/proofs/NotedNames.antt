-- The names in the set of added matches.
use Rattle.std.proofs.Common.{◌≡◌, ◌⊎◌, ◌↔◌, ◌∙◌, ◌||◌, Bool, true, false, List, ℕ, [], ◌∷◌, ◌++◌, inl, inr, ap, sym, refl}
use Rattle.std.specs.Prelude.{bytes_eq, if◌then◌else◌}
use Rattle.std.specs.List.{list_any}
use Rattle.std.proofs.lemmas.List.Folds.{list_any-append}
use Rattle.std.proofs.lemmas.Slice.Eq.{bytes_eq-Decides}
use Rattle.indexmap.specs.IndexSet.{insert_key}

module _ {K : Type 0} (eq : K → K → Bool) (items : K → List ℕ) (same : (a b : K) → eq a b ≡ true → items a ≡ items b) where
  -- one of these keys has these names
  abbrev pub has : List K → List ℕ → Bool
  has ks names = list_any (λ k. bytes_eq names (items k)) ks

  has_equal : (ks : List K) (k : K) → list_any (eq k) ks ≡ true → has ks (items k) ≡ true
  has_equal [] k none = let bad : ⊥ = cc in absurd bad
  has_equal (x ∷ xs) k some = step (eq k x) refl (has_equal xs k)
    where
      either : (a b : Bool) → b ≡ true → (a || b) ≡ true
      either true b is = refl
      either false b is = is

      step : (b : Bool) → eq k x ≡ b → (list_any (eq k) xs ≡ true → has xs (items k) ≡ true) → has (x ∷ xs) (items k) ≡ true
      step true is later = ap (λ b. b || has xs (items k)) ((bytes_eq-Decides (items k) (items x)).1 (same k x is))
      step false other later =
          let rest : list_any (eq k) xs ≡ true = sym (ap (λ b. b || list_any (eq k) xs) other) ∙ some in
          either (bytes_eq (items k) (items x)) (has xs (items k)) (later rest)

  -- after a key is inserted, the set has the names from before and those of the key
  pub has_after_insert : (ks : List K) (k : K) (names : List ℕ) → (has (insert_key eq ks k) names ≡ true) ↔ ((has ks names ≡ true) ⊎ (items k ≡ names))
  has_after_insert ks k names = step (list_any (eq k) ks) refl
    where
      own : bytes_eq names (items k) ≡ true → items k ≡ names
      own is = sym ((bytes_eq-Decides names (items k)).0 is)

      added : (a b : Bool) → bytes_eq names (items k) ≡ b → (a || (b || false)) ≡ true → (a ≡ true) ⊎ (items k ≡ names)
      added true b is some = inl refl
      added false true is some = inr (own is)
      added false false is some = let bad : ⊥ = cc in absurd bad

      kept : (a b : Bool) → (a ≡ true) ⊎ (b ≡ true) → (a || (b || false)) ≡ true
      kept true b some = refl
      kept false true some = refl
      kept false false (inl some) = some
      kept false false (inr some) = some

      step : (b : Bool) → list_any (eq k) ks ≡ b → (has (if b then ks else ks ++ k ∷ []) names ≡ true) ↔ ((has ks names ≡ true) ⊎ (items k ≡ names))
      step true there = (inl, back)
        where
          back : (has ks names ≡ true) ⊎ (items k ≡ names) → has ks names ≡ true
          back (inl is) = is
          back (inr here) = ap (has ks) (sym here) ∙ has_equal ks k there
      step false new = (on, back)
        where
          more : has (ks ++ k ∷ []) names ≡ (has ks names || (bytes_eq names (items k) || false))
          more = list_any-append (λ k. bytes_eq names (items k)) ks (k ∷ [])

          on : has (ks ++ k ∷ []) names ≡ true → (has ks names ≡ true) ⊎ (items k ≡ names)
          on is = added (has ks names) (bytes_eq names (items k)) refl (sym more ∙ is)

          back : (has ks names ≡ true) ⊎ (items k ≡ names) → has (ks ++ k ∷ []) names ≡ true
          back (inl is) = more ∙ kept (has ks names) (bytes_eq names (items k)) (inl is)
          back (inr here) = more ∙ kept (has ks names) (bytes_eq names (items k)) (inr ((bytes_eq-Decides names (items k)).1 (sym here)))
