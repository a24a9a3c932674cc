-- Results at the indices of their matches, and matches that are settled in order.
use Rattle.std.proofs.Common.{◌≡◌, ℕ, zero, suc, ◌+◌, ◌-◌, ◌≤◌, Bool, true, Option, None, Some, List, set, length, get_or, replicate, sym, ◌∙◌, ap, subst, arith, inl, inr}
use Rattle.std.specs.Prelude.{slice_set}
use Rattle.std.proofs.lemmas.Bool.{cases_eq, cases_lt}
use Rattle.std.proofs.lemmas.List.{get_or-set_same, get_or-set_other, get_or_past, get_or-replicate, length-replicate, set_past}
use Rattle.match_season.specs.Seasons.{ArePlaced, settled_on}

pub placed-set : {T : Type 0} (at : T → ℕ) (waiting : List (Option T)) (place : ℕ) (it : Option T) → ((over : T) → it ≡ Some over → at over ≡ place) → ArePlaced at waiting → ArePlaced at (set waiting place it)
placed-set {T} at waiting place it right before k over found =
    elim (cases_eq k place) [
      | inl same ↦
          elim (cases_lt place (length waiting)) [
            | inl within ↦
                let new : get_or (set waiting place it) place None ≡ it = get_or-set_same waiting place it None within in
                right over (sym new ∙ subst (λ (n : ℕ). get_or (set waiting place it) n None ≡ Some over) same found) ∙ sym same
            | inr past ↦ before k over (ap (λ (them : List (Option T)). get_or them k None) (sym (set_past waiting place it past)) ∙ found)
          ]
      | inr other ↦ before k over (sym (get_or-set_other waiting place k it None other) ∙ found)
    ]

pub placed-none : {T : Type 0} (at : T → ℕ) (waiting : List (Option T)) (count : ℕ) → waiting ≡ replicate count None → ArePlaced at waiting
placed-none {T} at waiting count is k over found =
    let none : Option T = None in
    let long = length-replicate count none in
    let here : get_or (replicate count none) k none ≡ Some over = ap (λ (them : List (Option T)). get_or them k none) (sym is) ∙ found in
    elim (cases_lt k count) [
      | inl lt ↦ cc (sym (get_or-replicate count k none none lt) ∙ here)
      | inr past ↦ cc (sym (get_or_past (replicate count none) k none (omega (arith, past, long))) ∙ here)
    ]

pub settled-more : (settled : List Bool) (from m n : ℕ) → settled_on (settled_on settled from m) (from + m) n ≡ settled_on settled from (m + n)
settled-more settled from m zero =
    let same : m ≡ m + 0 = omega arith in
    ap (λ (n : ℕ). settled_on settled from n) same
settled-more settled from m (suc n) =
    let step : from + m + n ≡ from + (m + n) = omega arith in
    let more : suc (m + n) ≡ m + suc n = omega arith in
    ap (λ (them : List Bool). slice_set them (from + m + n) true) (settled-more settled from m n) ∙ (ap (λ (at : ℕ). slice_set (settled_on settled from (m + n)) at true) step ∙ ap (λ (k : ℕ). settled_on settled from k) more)

pub settled-none : (settled : List Bool) (from count : ℕ) → count ≡ 0 → settled ≡ settled_on settled from count
settled-none settled from count is = ap (λ (n : ℕ). settled_on settled from n) (sym is)

pub settled-next : (old now new : List Bool) (from place at : ℕ) → from ≤ place → at ≡ place → now ≡ settled_on old from (place - from) → new ≡ slice_set now at true → new ≡ settled_on old from (place + 1 - from)
settled-next old now new from place at le is before set_one =
    let step : ◌≡◌ {A = ℕ} (place + 1 - from) (suc (place - from)) = omega (arith, le) in
    let here : from + (place - from) ≡ at = omega (arith, le, is) in
    set_one ∙ (ap (λ (them : List Bool). slice_set them at true) before
    ∙ (ap (λ (n : ℕ). slice_set (settled_on old from (place - from)) n true) (sym here) ∙ ap (λ (n : ℕ). settled_on old from n) (sym step)))

pub settled-trans : (old now new : List Bool) (next place : ℕ) → next ≤ place → now ≡ settled_on old 0 next → new ≡ settled_on now next (place - next) → new ≡ settled_on old 0 place
settled-trans old now new next place le before more =
    let whole : next + (place - next) ≡ place = omega (arith, le) in
    let start : next ≡ 0 + next = omega arith in
    more ∙ (ap (λ (them : List Bool). settled_on them next (place - next)) before ∙ (ap (λ (at : ℕ). settled_on (settled_on old 0 next) at (place - next)) start ∙ (settled-more old 0 next (place - next) ∙ ap (λ (n : ℕ). settled_on old 0 n) whole)))
