-- A pass over rules in rank order finds the fit.
use Rattle.std.proofs.Common.{ℕ, zero, suc, ◌<◌, ◌≤◌, ◌≡◌, ◌≢◌, Bool, true, false, ◌&&◌, ◌||◌, if◌then◌else◌, nat_eq, List, [], ◌∷◌, ◌++◌, refl, ap, sym, ◌∙◌, arith, length, set, length-set, get_or-set_other, append_assoc, append-nil}
use mathlib.Core.Bool.{and-false, and-true, or-false, or-true, or_assoc}
use Rattle.std.proofs.lemmas.List.{length-replicate}
use Rattle.std.proofs.lemmas.Grind.{get_or-set_at}
use Rattle.std.proofs.lemmas.Bool.Decides.{Decides-eqb}
use Rattle.numbered_rules.specs.Literals.{Rule, AllAtomsAre}
use Rattle.numbered_rules.specs.Fit.{Situation, all_true, derived, Fits}
use Rattle.numbered_rules.specs.Numbered.{bit, row_after, unset}
use Rattle.ground_rules.specs.Internal.Ranked.{AreRankedFrom}
use Rattle.ground_rules.proofs.Fits.{all-agree, all_atoms-weaken}

-- the rules contain only atoms of lower rank than this
abbrev pub AreBelow : (ℕ → ℕ) → ℕ → List (Rule ℕ ℕ) → Type 0
AreBelow rank low [] = Unit {0}
AreBelow rank low (r ∷ rs) = AllAtomsAre (λ a. rank a < low) r.body × AreBelow rank low rs

below-more : (rank : ℕ → ℕ) (low high : ℕ) (rs : List (Rule ℕ ℕ)) (r : Rule ℕ ℕ) → low ≤ high → AreBelow rank low rs → AllAtomsAre (λ a. rank a < high) r.body → AreBelow rank high (rs ++ r ∷ [])
below-more rank low high [] r le h last = (last, tt)
below-more rank low high (q ∷ rs) r le h last = (all_atoms-weaken (λ a. rank a < low) (λ a. rank a < high) q.body (λ a lt. omega arith) h.0, below-more rank low high rs r le h.1 last)

derived-below : (w : Situation ℕ ℕ) (u v : ℕ → Bool) (rank : ℕ → ℕ) (low : ℕ) (rs : List (Rule ℕ ℕ)) (a : ℕ) → AreBelow rank low rs → ((b : ℕ) → rank b < low → u b ≡ v b) → derived w u rs a ≡ derived w v rs a
derived-below w u v rank low [] a h same = refl
derived-below w u v rank low (r ∷ rs) a h same =
    let first = all-agree w u v r.body (all_atoms-weaken (λ b. rank b < low) (λ b. u b ≡ v b) r.body same h.0) in
    let rest = derived-below w u v rank low rs a h.1 same in
    cc

derived-append : (w : Situation ℕ ℕ) (v : ℕ → Bool) (xs ys : List (Rule ℕ ℕ)) (a : ℕ) → derived w v (xs ++ ys) a ≡ (derived w v xs a || derived w v ys a)
derived-append w v [] ys a = refl
derived-append w v (r ∷ xs) ys a =
    ap (λ t. (w.same r.head a && all_true w v r.body) || t) (derived-append w v xs ys a)
    ∙ sym (or_assoc (w.same r.head a && all_true w v r.body) (derived w v xs a) (derived w v ys a))

derived-last : (w : Situation ℕ ℕ) (v : ℕ → Bool) (xs : List (Rule ℕ ℕ)) (r : Rule ℕ ℕ) (a : ℕ) → derived w v (xs ++ r ∷ []) a ≡ (derived w v xs a || (w.same r.head a && all_true w v r.body))
derived-last w v xs r a = derived-append w v xs (r ∷ []) a ∙ ap (λ t. derived w v xs a || t) (or-false (w.same r.head a && all_true w v r.body))

bit-set-by : (row : List Bool) (h a : ℕ) → h < length row → (test : Bool) → nat_eq h a ≡ test → bit (set row h true) a ≡ (bit row a || test)
bit-set-by row h a lt true is = get_or-set_at row h a true false (sym ((Decides-eqb h a).0 is)) lt ∙ sym (or-true (bit row a))
bit-set-by row h a lt false is =
    let ne : a ≢ h = λ e. let f = (Decides-eqb h a).1 (sym e) in cc in
    get_or-set_other row h a true false ne ∙ sym (or-false (bit row a))

bit-set : (row : List Bool) (h a : ℕ) → h < length row → bit (set row h true) a ≡ (bit row a || nat_eq h a)
bit-set row h a lt = bit-set-by row h a lt (nat_eq h a) refl

-- the row after one rule
abbrev pub raised : Situation ℕ ℕ → List Bool → Rule ℕ ℕ → List Bool
raised w row r = if all_true w (bit row) r.body then set row r.head true else row

raised-length : (row : List Bool) (h : ℕ) (test : Bool) → length (if test then set row h true else row) ≡ length row
raised-length row h true = length-set row h true
raised-length row h false = refl

raised-bit : (row : List Bool) (h a : ℕ) (test : Bool) → h < length row → bit (if test then set row h true else row) a ≡ (bit row a || (nat_eq h a && test))
raised-bit row h a true lt = bit-set row h a lt ∙ ap (λ t. bit row a || t) (sym (and-true (nat_eq h a)))
raised-bit row h a false lt = sym (ap (λ t. bit row a || t) (and-false (nat_eq h a)) ∙ or-false (bit row a))

raised-lower : (row : List Bool) (rank : ℕ → ℕ) (h b : ℕ) (test : Bool) → rank b < rank h → bit (if test then set row h true else row) b ≡ bit row b
raised-lower row rank h b true below = let ne : b ≢ h = λ e. let f = ap rank e in omega (arith, f) in get_or-set_other row h b true false ne
raised-lower row rank h b false below = refl

step : (w : Situation ℕ ℕ) (rank : ℕ → ℕ) (low : ℕ) (done : List (Rule ℕ ℕ)) (r : Rule ℕ ℕ) (row : List Bool) → ((x y : ℕ) → w.same x y ≡ nat_eq x y) → r.head < length row → AreBelow rank low done → low ≤ rank r.head → AllAtomsAre (λ a. rank a < rank r.head) r.body → ((a : ℕ) → bit row a ≡ derived w (bit row) done a) → (a : ℕ) → bit (raised w row r) a ≡ derived w (bit (raised w row r)) (done ++ r ∷ []) a
step w rank low done r row same within below le lower fit a =
    let test = all_true w (bit row) r.body in
    let old : (b : ℕ) → rank b < rank r.head → bit (raised w row r) b ≡ bit row b = λ b lt. raised-lower row rank r.head b test lt in
    let rest : derived w (bit (raised w row r)) done a ≡ derived w (bit row) done a = derived-below w (bit (raised w row r)) (bit row) rank low done a below (λ b lt. old b (omega arith)) in
    let first : all_true w (bit (raised w row r)) r.body ≡ test = all-agree w (bit (raised w row r)) (bit row) r.body (all_atoms-weaken (λ b. rank b < rank r.head) (λ b. bit (raised w row r) b ≡ bit row b) r.body old lower) in
    let last = derived-last w (bit (raised w row r)) done r a in
    let here = raised-bit row r.head a test within in
    let fits = fit a in
    let is = same r.head a in
    cc

pass : (w : Situation ℕ ℕ) (rank : ℕ → ℕ) (low atoms : ℕ) (done rs : List (Rule ℕ ℕ)) (row : List Bool) → ((x y : ℕ) → w.same x y ≡ nat_eq x y) → length row ≡ atoms → AreBelow rank low done → AreRankedFrom rank low atoms rs → ((a : ℕ) → bit row a ≡ derived w (bit row) done a) → (a : ℕ) → bit (row_after w row rs) a ≡ derived w (bit (row_after w row rs)) (done ++ rs) a
pass w rank low atoms done [] row same wide below ranked fit a = rw append-nil (fit a)
pass w rank low atoms done (r ∷ rs) row same wide below ranked fit a =
    let q = append_assoc done (r ∷ []) rs in
    let wide' : length (raised w row r) ≡ atoms = raised-length row r.head (all_true w (bit row) r.body) ∙ wide in
    let h = pass w rank (rank r.head) atoms (done ++ r ∷ []) rs (raised w row r) same wide' (below-more rank low (rank r.head) done r ranked.0 below ranked.2) ranked.3
    (step w rank low done r row same (omega arith) below ranked.0 ranked.2 fit) a in
    h ∙ ap (λ t. derived w (bit (row_after w (raised w row r) rs)) t a) q

pub bit-unset : (n a : ℕ) → bit (unset n) a ≡ false
bit-unset zero a = refl
bit-unset (suc n) zero = refl
bit-unset (suc n) (suc a) = bit-unset n a

pub pass-fits : (w : Situation ℕ ℕ) (rank : ℕ → ℕ) (atoms : ℕ) (rs : List (Rule ℕ ℕ)) → ((x y : ℕ) → w.same x y ≡ nat_eq x y) → AreRankedFrom rank 0 atoms rs → Fits w rs (bit (row_after w (unset atoms) rs))
pass-fits w rank atoms rs same ranked a = pass w rank 0 atoms [] rs (unset atoms) same (length-replicate atoms false) tt ranked (bit-unset atoms) a
