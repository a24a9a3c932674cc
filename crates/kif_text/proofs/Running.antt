-- Runs the steps over the bytes of a text, as the loops of the reader do.
use Rattle.std.proofs.Common.{◌≡◌, ℕ, suc, ◌+◌, ◌<◌, ◌≤◌, List, drop, get_or, length, Result, Ok, refl, sym, ap, subst, ◌∙◌, drop-cons, add-one}
use Rattle.std.proofs.lemmas.List.{drop_all}
use Rattle.kif_text.specs.Machine.{State, ◌>>=◌, run, finish}
use Rattle.kif_text.specs.Internal.Following.{total, Fails}
use Rattle.kif_text.specs.declared.fault.KifFault.{KifFault}
use Rattle.kif_text.specs.declared.fault.KifFault.TheVariants as faults

pub goes_on : (f : State → ℕ → ℕ → Result State KifFault) (s t : State) (i : ℕ) (text : List ℕ) (total : Result State KifFault) → i < length text → f s i (get_or text i 0) ≡ Ok t
    → run f s i (drop i text) ≡ total → run f t (i + 1) (drop (i + 1) text) ≡ total
unfolding run
goes_on f s t i text total lt h so_far =
    let one : run f s i (drop i text) ≡ run f t (i + 1) (drop (i + 1) text) = rw (drop-cons text i 0, h, add-one) refl in
    sym one ∙ so_far

-- an error stays the result, whatever follows
pub fails_on : {A B : Type 0} (e : KifFault) (r : Result A KifFault) (f : A → Result B KifFault) → Fails e r → Fails e (r >>= f)
fails_on faults.Memory r f h = tt
fails_on e r f h = ap (λ x. x >>= f) h

pub stops : (e : KifFault) (f : State → ℕ → ℕ → Result State KifFault) (s : State) (i : ℕ) (text : List ℕ) (total : Result State KifFault) → i < length text → Fails e (f s i (get_or text i 0))
    → run f s i (drop i text) ≡ total → Fails e (total >>= finish)
unfolding run
stops e f s i text total lt h so_far =
    let here : Fails e (run f s i (drop i text)) = rw (drop-cons text i 0) (fails_on e (f s i (get_or text i 0)) (λ t. run f t (suc i) (drop (suc i) text)) h) in
    fails_on e total finish (subst (Fails e) so_far here)

pub is_done : (f : State → ℕ → ℕ → Result State KifFault) (s : State) (i : ℕ) (text : List ℕ) (total : Result State KifFault) → length text ≤ i → run f s i (drop i text) ≡ total → total ≡ Ok s
unfolding run
is_done f s i text total le so_far =
    let one : run f s i (drop i text) ≡ Ok s = rw (drop_all i text le) refl in
    sym so_far ∙ one
