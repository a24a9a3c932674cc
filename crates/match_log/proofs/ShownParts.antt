-- How a text in three parts is shown.
use Rattle.std.proofs.Common.{◌≡◌, ℕ, zero, suc, ◌-◌, List, [], ◌∷◌, ◌++◌, length, take, map, refl, sym, ap, ◌∙◌, arith, append_assoc}
use Rattle.std.proofs.lemmas.List.{map-append}

first_of_two : (n : ℕ) (xs ys : List ℕ) → take n (xs ++ ys) ≡ take n xs ++ take (n - length xs) ys
first_of_two zero [] ys = refl
first_of_two (suc n) [] ys = let same : suc n ≡ suc n - 0 = omega arith in ap (λ k. take k ys) same
first_of_two zero (x ∷ xs) ys = let none : 0 - suc (length xs) ≡ 0 = omega arith in ap (λ k. take k ys) (sym none)
first_of_two (suc n) (x ∷ xs) ys =
    let same : suc n - suc (length xs) ≡ n - length xs = omega arith in
    ap (λ (l : List ℕ). x ∷ l) (first_of_two n xs ys ∙ ap (λ k. take n xs ++ take k ys) (sym same))

first_mapped : (f : ℕ → ℕ) (n : ℕ) (xs ys : List ℕ) → map f (take n (xs ++ ys)) ≡ map f (take n xs) ++ map f (take (n - length xs) ys)
first_mapped f n xs ys = ap (map f) (first_of_two n xs ys) ∙ map-append f (take n xs) (take (n - length xs) ys)

three_parts : (f : ℕ → ℕ) (n : ℕ) (before shared after : List ℕ)
    → map f (take n (before ++ (shared ++ after)))
    ≡ map f (take n before) ++ (map f (take (n - length before) shared) ++ map f (take (n - length before - length shared) after))
three_parts f n before shared after =
    first_mapped f n before (shared ++ after) ∙ ap (λ l. map f (take n before) ++ l) (first_mapped f (n - length before) shared after)

pub joined : (f : ℕ → ℕ) (n left last : ℕ) (text before shared after dots : List ℕ)
    → left ≡ n - length before → last ≡ left - length shared → text ≡ before ++ (shared ++ after)
    → ((map f (take n before) ++ map f (take left shared)) ++ map f (take last after)) ++ dots ≡ map f (take n text) ++ dots
joined f n left last text before shared after dots l r is =
    let parts = three_parts f n before shared after in
    rw (r, l, is) (ap (λ t. t ++ dots) (append_assoc (map f (take n before)) _ _ ∙ sym parts))
