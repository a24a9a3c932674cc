use Rattle.std.proofs.Common.{◌≡◌, ℕ, ◌+◌, ◌-◌, ◌<◌, ◌≤◌, List, ◌∷◌, ◌++◌, length, take, drop, get_or, slice_range, sym, ap, ◌∙◌, arith}
use Rattle.std.proofs.lemmas.List.{take-take, take-append-drop, drop-take, drop-drop, drop_more}

pub range_front : (xs : List ℕ) (start count end : ℕ) → start + count ≤ end → slice_range xs start (start + count) ≡ take count (slice_range xs start end)
range_front xs start count end h =
    let fits : count ≤ end - start = omega arith in
    let size : start + count - start ≡ count = omega arith in
    ap (λ n. take n (drop start xs)) size ∙ sym (take-take count (end - start) (drop start xs) fits)

pub range_back : (xs : List ℕ) (start count end : ℕ) → start + count ≤ end → drop count (slice_range xs start end) ≡ slice_range xs (start + count) end
range_back xs start count end h =
    let size : end - start ≡ count + (end - (start + count)) = omega arith in
    ap (λ n. drop count (take n (drop start xs))) size
    ∙ drop-take count (end - (start + count)) (drop start xs)
    ∙ ap (take (end - (start + count))) (drop-drop count start xs)

pub range_cut : (xs : List ℕ) (start count end : ℕ) → start + count ≤ end
    → slice_range xs start end ≡ take count (slice_range xs start end) ++ slice_range xs (start + count) end
range_cut xs start count end h =
    let range = slice_range xs start end in
    sym (take-append-drop count range) ∙ ap (λ l. take count range ++ l) (range_back xs start count end h)

-- the element at that index is between the two parts
pub range_cut_at : (xs : List ℕ) (start count end : ℕ) (x d : ℕ) → start + count < end → count < length (slice_range xs start end) → get_or (slice_range xs start end) count d ≡ x
    → slice_range xs start end ≡ take count (slice_range xs start end) ++ x ∷ slice_range xs (start + count + 1) end
range_cut_at xs start count end x d h inside here =
    let range = slice_range xs start end in
    let from : start + (count + 1) ≡ start + count + 1 = omega arith in
    let rest = range_back xs start (count + 1) end (omega arith) ∙ ap (λ n. slice_range xs n end) from in
    sym (take-append-drop count range)
    ∙ ap (λ l. take count range ++ l) (drop_more range count d inside ∙ ap (λ y. y ∷ drop (count + 1) range) here ∙ ap (λ l. x ∷ l) rest)
