-- Digits without leading zeros determine their number, and the number determines them.
use Rattle.std.proofs.Common.{◌≡◌, ◌≢◌, ℕ, ◌+◌, ◌*◌, ◌<◌, true, List, [], ◌∷◌, ◌++◌, reverse, get_or, refl, sym, ap, subst, ◌∙◌, arith}
use Rattle.std.specs.Prelude.{◌==◌, ⊤}
use Rattle.std.specs.List.{list_all}
use Rattle.std.specs.Char.{is_ascii_digit, digit_value}
use Rattle.std.specs.Str.{bytes_eq}
use Rattle.std.specs.Str.Parse.{digits_value}
use Rattle.std.proofs.lemmas.Bool.Decides.{nat_tests, same_from_decides, Decides-eqb, Decides-like}
use Rattle.std.proofs.lemmas.Int.Digits.{digits_value_push}
use Rattle.std.proofs.lemmas.List.{reverse-append, reverse-reverse}
use Rattle.std.proofs.lemmas.Slice.Eq.{bytes_eq-Decides}
use Rattle.std.proofs.lemmas.Bool.{and_parts as both}

digit_small : (b : ℕ) → is_ascii_digit b ≡ true → digit_value b < 10
digit_small b e = grind (arith, nat_tests)

digit_positive : (b : ℕ) → is_ascii_digit b ≡ true → b ≢ 48 → 0 < digit_value b
digit_positive b e h = grind (arith, nat_tests)

digit_one : (b c : ℕ) → is_ascii_digit b ≡ true → is_ascii_digit c ≡ true → digit_value b ≡ digit_value c → b ≡ c
digit_one b c e f h = grind (arith, nat_tests)

-- the number whose digits are written backwards
backwards : List ℕ → ℕ
backwards [] = 0
backwards (x ∷ xs) = backwards xs * 10 + digit_value x

reverse_cons : (x : ℕ) (xs : List ℕ) → reverse (x ∷ xs) ≡ reverse xs ++ (x ∷ [])
reverse_cons x xs = reverse-append (x ∷ []) xs

backwards_is : (xs : List ℕ) → digits_value 10 (reverse xs) ≡ backwards xs
unfolding backwards
backwards_is [] = refl
backwards_is (x ∷ xs) =
    ap (digits_value 10) (reverse_cons x xs) ∙ digits_value_push 10 (reverse xs) x ∙ ap (λ n. n * 10 + digit_value x) (backwards_is xs)

-- the last digit, if there is one, is not 0
EndsAboveZero : List ℕ → Type 0
EndsAboveZero [] = ⊤
EndsAboveZero (x ∷ []) = x ≢ 48
EndsAboveZero (x ∷ (y ∷ ys)) = EndsAboveZero (y ∷ ys)

ends_after : (x : ℕ) (xs : List ℕ) → EndsAboveZero (x ∷ xs) → EndsAboveZero xs
unfolding EndsAboveZero
ends_after x [] e = tt
ends_after x (y ∷ ys) e = e

ends_append : (xs : List ℕ) (x : ℕ) → x ≢ 48 → EndsAboveZero (xs ++ (x ∷ []))
unfolding EndsAboveZero
ends_append [] x h = h
ends_append (y ∷ []) x h = h
ends_append (y ∷ (z ∷ zs)) x h = ends_append (z ∷ zs) x h

ends_reverse : (xs : List ℕ) → get_or xs 0 0 ≢ 48 → EndsAboveZero (reverse xs)
unfolding EndsAboveZero
ends_reverse [] h = tt
ends_reverse (x ∷ xs) h = subst EndsAboveZero (sym (reverse_cons x xs)) (ends_append (reverse xs) x h)

all_append_one : (xs : List ℕ) (x : ℕ) → list_all is_ascii_digit xs ≡ true → is_ascii_digit x ≡ true → list_all is_ascii_digit (xs ++ (x ∷ [])) ≡ true
all_append_one [] x e h = rw h refl
all_append_one (y ∷ ys) x e h =
    let parts = both (is_ascii_digit y) (list_all is_ascii_digit ys) e in
    rw (parts.0, all_append_one ys x parts.1 h) refl

pub all_reverse : (xs : List ℕ) → list_all is_ascii_digit xs ≡ true → list_all is_ascii_digit (reverse xs) ≡ true
all_reverse [] e = refl
all_reverse (x ∷ xs) e =
    let parts = both (is_ascii_digit x) (list_all is_ascii_digit xs) e in
    subst (λ (l : List ℕ). list_all is_ascii_digit l ≡ true) (sym (reverse_cons x xs)) (all_append_one (reverse xs) x (all_reverse xs parts.1) parts.0)

positive : (x : ℕ) (xs : List ℕ) → list_all is_ascii_digit (x ∷ xs) ≡ true → EndsAboveZero (x ∷ xs) → 0 < backwards (x ∷ xs)
unfolding backwards EndsAboveZero
positive x [] e ends =
    let some = digit_positive x (both (is_ascii_digit x) true e).0 ends in
    omega arith
positive x (y ∷ ys) e ends =
    let parts = both (is_ascii_digit x) (list_all is_ascii_digit (y ∷ ys)) e in
    let some = positive y ys parts.1 ends in
    omega arith

one_backwards : (xs ys : List ℕ) → list_all is_ascii_digit xs ≡ true → list_all is_ascii_digit ys ≡ true
    → EndsAboveZero xs → EndsAboveZero ys → backwards xs ≡ backwards ys → xs ≡ ys
unfolding backwards
one_backwards [] [] e f ends other same = refl
one_backwards [] (y ∷ ys) e f ends other same =
    let some = positive y ys f other in
    absurd (omega arith)
one_backwards (x ∷ xs) [] e f ends other same =
    let some = positive x xs e ends in
    absurd (omega arith)
one_backwards (x ∷ xs) (y ∷ ys) e f ends other same =
    let left = both (is_ascii_digit x) (list_all is_ascii_digit xs) e in
    let right = both (is_ascii_digit y) (list_all is_ascii_digit ys) f in
    let small = digit_small x left.0 in
    let little = digit_small y right.0 in
    let last : digit_value x ≡ digit_value y = omega arith in
    let rest : backwards xs ≡ backwards ys = omega arith in
    cc (digit_one x y left.0 right.0 last, one_backwards xs ys left.1 right.1 (ends_after x xs ends) (ends_after y ys other) rest)

one_number : (xs ys : List ℕ) → list_all is_ascii_digit xs ≡ true → list_all is_ascii_digit ys ≡ true
    → get_or xs 0 0 ≢ 48 → get_or ys 0 0 ≢ 48 → digits_value 10 xs ≡ digits_value 10 ys → xs ≡ ys
one_number xs ys e f first other same =
    let number : (l : List ℕ) → digits_value 10 l ≡ backwards (reverse l) = λ l. ap (digits_value 10) (sym (reverse-reverse l)) ∙ backwards_is (reverse l) in
    let turned = one_backwards (reverse xs) (reverse ys) (all_reverse xs e) (all_reverse ys f) (ends_reverse xs first) (ends_reverse ys other) (sym (number xs) ∙ same ∙ number ys) in
    sym (reverse-reverse xs) ∙ ap reverse turned ∙ reverse-reverse ys

-- Digits without leading zeros are equal if and only if they write the same number.
pub same_number : (xs ys : List ℕ) → list_all is_ascii_digit xs ≡ true → list_all is_ascii_digit ys ≡ true
    → get_or xs 0 0 ≢ 48 → get_or ys 0 0 ≢ 48 → bytes_eq xs ys ≡ (digits_value 10 xs == digits_value 10 ys)
same_number xs ys e f first other =
    same_from_decides (bytes_eq xs ys) (digits_value 10 xs == digits_value 10 ys) (bytes_eq-Decides xs ys)
    (Decides-like (digits_value 10 xs == digits_value 10 ys) (one_number xs ys e f first other) (λ same. ap (digits_value 10) same) (Decides-eqb (digits_value 10 xs) (digits_value 10 ys)))
