use Rattle.std.proofs.Common.{◌≡◌, ◌<◌, ℕ, suc, None, Option, List, [], ◌∷◌, length, arith, refl}
use Rattle.match_book.specs.Roles.{at_role, blank}
use Rattle.record_check.proofs.ending.is_blank.Goals as goal

all_empty : {A : Type 0} (xs : List (Option A)) → ((k : ℕ) → k < length xs → at_role xs k ≡ None) → xs ≡ blank (length xs)
all_empty [] none = refl
all_empty (x ∷ xs) none =
    let head : x ≡ None = none 0 (omega arith) in
    let tail = all_empty xs (λ k lt. none (suc k) (omega arith)) in
    cc

pub returns : goal.returns
returns c = (λ _. all_empty c.args.marks.now (λ k lt. c.loop-mark.invariant k (omega arith)), λ _. refl)
