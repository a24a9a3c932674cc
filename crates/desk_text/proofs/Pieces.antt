-- A list is split at its first element that passes a test.
use Rattle.std.proofs.Common.{◌≡◌, ℕ, suc, ◌+◌, ◌≤◌, Bool, true, false, not, cond, List, [], ◌∷◌, length, take, drop, refl, ap, ◌∙◌, arith, rules, Some, None, ltb}
use Rattle.std.specs.Prelude.{position}
use Rattle.std.specs.List.{slice_split, onto_first, position_or_len}
use Rattle.std.proofs.lemmas.List.Splits.{slice_split_first}
use Rattle.std.proofs.lemmas.Option.{cond_some}
use borrow.Author.Tests.{ltb-true}

whole_step : (p : ℕ → Bool) (x : ℕ) (xs : List ℕ) (b : Bool) → suc (length xs) ≤ cond (not b) (1 + position_or_len p xs) 0
    → (length xs ≤ position_or_len p xs → slice_split p xs ≡ xs ∷ [])
    → cond b ([] ∷ slice_split p xs) (onto_first x (slice_split p xs)) ≡ (x ∷ xs) ∷ []
whole_step p x xs true h rest = absurd (omega arith)
whole_step p x xs false h rest = ap (onto_first x) (rest (omega arith))

whole_from : (p : ℕ → Bool) (xs : List ℕ) → length xs ≤ position_or_len p xs → slice_split p xs ≡ xs ∷ []
whole_from p [] h = refl
whole_from p (x ∷ xs) h = whole_step p x xs (p x) h (whole_from p xs)

none_step : (b : Bool) (n : ℕ) → cond b (Some n) None ≡ None → b ≡ false
none_step true n h = cc
none_step false n h = refl

pub pieces_whole : (p : ℕ → Bool) (xs : List ℕ) → position p xs ≡ None → slice_split p xs ≡ xs ∷ []
pieces_whole p xs h =
    let past : ltb (position_or_len p xs) (length xs) ≡ false = none_step _ _ h in
    whole_from p xs (search rules)

pub pieces_cut : (p : ℕ → Bool) (xs : List ℕ) (end : ℕ) → position p xs ≡ Some end → slice_split p xs ≡ take end xs ∷ slice_split p (drop (end + 1) xs)
pieces_cut p xs end h =
    let found = cond_some (ltb (position_or_len p xs) (length xs)) (position_or_len p xs) end h in
    slice_split_first p xs 0 (ltb-true _ _ found.0) ∙ ap (λ n. take n xs ∷ slice_split p (drop (n + 1) xs)) found.1
