-- The shapes of a record's lists.
use Rattle.std.proofs.Common.{◌≡◌, ℕ, zero, suc, ◌+◌, ◌<◌, ◌≤◌, ◌==◌, ◌||◌, Bool, true, false, not, List, [], ◌∷◌, ◌++◌, length, get_or, inl, inr, refl, sym, ap, ◌∙◌, arith, length-append, Some, take, add-one}
use Rattle.std.proofs.lemmas.List.{get_or_append_left, get_or_push, length-map, nil_from_length}
use Rattle.std.proofs.lemmas.Option.{slice_get-map}
use Rattle.std.proofs.Math.Nat.{eq-or-lt_of_le}
use Rattle.std.specs.Prelude.{All, ◌⊎◌, slice_get, option_map}
use Rattle.std.proofs.lemmas.Bool.{both_ways, not-false, not-true}
use Rattle.std.proofs.lemmas.Bool.Decides.{Decides-eqb, nat_tests}
use Rattle.std.proofs.lemmas.Slice.Eq.{bytes_eq-Decides}
use Rattle.std.specs.Str.{bytes_eq}
use Rattle.game_core.specs.Play.{max_goal}
use Rattle.record_reading.specs.RecordParts.{AreGoals, each_role, prefixes}

pub goals_small : (roles : ℕ) (goals : List ℕ) → AreGoals roles goals → All (λ goal. goal ≤ max_goal) goals
goals_small roles goals (inl none) = λ k d below. absurd (omega (arith, ap length none))
goals_small roles goals (inr each) = each.1

pub other_count : (roles n : ℕ) (goals : List ℕ) → n ≡ length goals → (n == 0 || n == roles) ≡ false → AreGoals roles goals → ⊥
other_count roles n goals many other (inl none) = let empty : n ≡ 0 = many ∙ ap length none in grind (arith, nat_tests)
other_count roles n goals many other (inr each) = let wide : n ≡ roles = many ∙ each.0 in grind (arith, nat_tests)

pub goals_counted : (roles n : ℕ) (goals : List ℕ) → n ≡ length goals → (n == 0 || n == roles) ≡ true → All (λ goal. goal ≤ max_goal) goals → AreGoals roles goals
goals_counted roles n goals many counted small = go (n == 0) refl counted
  where
    go : (b : Bool) → (n == 0) ≡ b → (b || n == roles) ≡ true → AreGoals roles goals
    go true is h = inl (nil_from_length goals (sym many ∙ (Decides-eqb n 0).0 is))
    go false is h = inr (sym many ∙ (Decides-eqb n roles).0 h, small)

pub each_role-more : {A : Type 0} (n : ℕ) (f : ℕ → A) → each_role (n + 1) f ≡ each_role n f ++ f n ∷ []
each_role-more n f = rw add-one refl

pub length_each_role : {A : Type 0} (n : ℕ) (f : ℕ → A) → length (each_role n f) ≡ n
length_each_role zero f = refl
length_each_role (suc n) f = simp length-append (omega (arith, length_each_role n f))

pub at_each_role : {A : Type 0} (n : ℕ) (f : ℕ → A) (r : ℕ) (d : A) → r < n → get_or (each_role n f) r d ≡ f r
at_each_role zero f r d below = absurd (omega arith)
at_each_role {A} (suc n) f r d below = go (eq-or-lt_of_le {n = r} {m = n} (omega (arith, below))) (at_each_role n f r d)
  where
    go : (r ≡ n) ⊎ (r < n) → (r < n → get_or (each_role n f) r d ≡ f r) → get_or (each_role n f ++ f n ∷ []) r d ≡ f r
    go (inr lower) earlier = get_or_append_left (each_role n f) (f n ∷ []) d r (omega (arith, length_each_role n f)) ∙ earlier lower
    go (inl last) earlier = get_or_push (each_role n f) (f n) d r (length_each_role n f ∙ sym last) ∙ ap f (sym last)

pub length_prefixes : {A : Type 0} (xs : List A) → length (prefixes xs) ≡ suc (length xs)
length_prefixes [] = refl
length_prefixes (x ∷ xs) = ap suc (length-map (prefixes xs) (λ front. x ∷ front) ∙ length_prefixes xs)

pub prefixes_get : {A : Type 0} (xs : List A) (k : ℕ) → k ≤ length xs → slice_get (prefixes xs) k ≡ Some (take k xs)
prefixes_get [] zero le = refl
prefixes_get [] (suc k) le = absurd (omega arith)
prefixes_get (x ∷ xs) zero le = refl
prefixes_get (x ∷ xs) (suc k) le = slice_get-map (λ front. x ∷ front) (prefixes xs) k ∙ ap (option_map (λ front. x ∷ front)) (prefixes_get xs k (omega arith))

pub same_when_equal : (xs ys : List ℕ) → not (bytes_eq xs ys) ≡ false → xs ≡ ys
same_when_equal xs ys is = (bytes_eq-Decides xs ys).0 (not-false (bytes_eq xs ys) is)

pub apart_when_not : (xs ys : List ℕ) → not (bytes_eq xs ys) ≡ true → xs ≡ ys → ⊥
apart_when_not xs ys is same = both_ways (bytes_eq xs ys) (not-true (bytes_eq xs ys) is) ((bytes_eq-Decides xs ys).1 same)
