use Rattle.std.proofs.Common.{◌≡◌, Bool, true, false, cond, List, [], ◌∷◌, length, All, refl, arith}
use Rattle.std.specs.List.{count_by}
use Rattle.std.proofs.lemmas.Bool.{false≢true}
use Rattle.std.proofs.lemmas.List.Elements.{All-cons, All-head, All-nil, All-tail}
use Rattle.std.proofs.lemmas.List.Sums.{count_by-le-length, sum_by-cons}

pub all-settled : (settled : List Bool) → count_by (λ it. it) settled ≡ length settled → All (λ it. it ≡ true) settled
all-settled [] is = All-nil (λ (it : Bool). it ≡ true)
all-settled (true ∷ rest) is =
    let step = sum_by-cons (λ (it : Bool). cond it 1 0) true rest in
    All-cons (λ (it : Bool). it ≡ true) true rest refl (all-settled rest (omega (arith, is, step)))
all-settled (false ∷ rest) is =
    let step = sum_by-cons (λ (it : Bool). cond it 1 0) false rest in
    absurd (omega (arith, is, step, count_by-le-length (λ (it : Bool). it) rest))

pub settled-all : (settled : List Bool) → All (λ it. it ≡ true) settled → count_by (λ it. it) settled ≡ length settled
settled-all [] all = refl
settled-all (true ∷ rest) all =
    let step = sum_by-cons (λ (it : Bool). cond it 1 0) true rest in
    omega (arith, step, settled-all rest (All-tail (λ (it : Bool). it ≡ true) true rest all))
settled-all (false ∷ rest) all = absurd (false≢true (All-head (λ (it : Bool). it ≡ true) false rest all))
