-- Changes of the counts of running matches, for one player after another.
use Rattle.std.proofs.Common.{◌≡◌, ℕ, ◌+◌, ◌-◌, ◌<◌, ◌^◌, min, List, set, take, length, get_or, refl, sym, ◌∙◌, ap, subst, arith, inl, inr, length-set}
use Rattle.std.specs.Prelude.{◌==◌}
use Rattle.std.proofs.lemmas.Bool.{cases_eq, cases_lt, eq-eqb, ne_eqb}
use Rattle.std.proofs.lemmas.List.{get_or-set_same, get_or-set_other, get_or_past, set_past}
use Rattle.std.proofs.lemmas.List.Sums.{count_by_more_yes, count_by_more_no}
use Rattle.match_season.specs.Queues.{SitDown, StandUp, times}

times_yes : (players : List ℕ) (at player : ℕ) → at < length players → get_or players at 0 ≡ player → times (take (at + 1) players) player ≡ times (take at players) player + 1
times_yes players at player within is = count_by_more_yes (λ it. it == player) players at 0 within (eq-eqb (get_or players at 0) player is)

times_no : (players : List ℕ) (at player : ℕ) → at < length players → (get_or players at 0 ≡ player → ⊥) → times (take (at + 1) players) player ≡ times (take at players) player
times_no players at player within other = count_by_more_no (λ it. it == player) players at 0 within (ne_eqb (get_or players at 0) player other)

pub sit-none : (sitting players : List ℕ) → SitDown sitting sitting (take 0 players)
sit-none sitting players = (refl, λ player inside fits. let none : times (take 0 players) player ≡ 0 = refl in omega (arith, none))

pub sit-more : (old now players : List ℕ) (at player : ℕ) → at < length players → get_or players at 0 ≡ player → SitDown old now (take at players)
    → SitDown old (set now player (min (get_or now player 0 + 1) (2 ^ 64 - 1))) (take (at + 1) players)
sit-more old now players at player within is before =
    let count = min (get_or now player 0 + 1) (2 ^ 64 - 1) in (
      length-set now player count ∙ before.0,
      λ who inside fits.
          elim (cases_eq player who) [
            | inl same ↦
                let more = times_yes players at who within (is ∙ same) in
                let had : get_or now who 0 ≡ get_or old who 0 + times (take at players) who = before.1 who inside (omega (arith, more, fits)) in
                let here : player < length now = omega (arith, before.0, inside, same) in
                let new : get_or (set now player count) who 0 ≡ count = subst (λ (it : ℕ). get_or (set now player count) it 0 ≡ count) same (get_or-set_same now player count 0 here) in
                let read : get_or now player 0 ≡ get_or now who 0 = ap (λ (it : ℕ). get_or now it 0) same in
                omega (arith, more, had, new, read, fits)
            | inr other ↦
                let same = times_no players at who within (λ e. other (sym is ∙ e)) in
                let kept = get_or-set_other now player who count 0 (λ e. other (sym e)) in
                let had = before.1 who inside (omega (arith, same, fits)) in
                omega (arith, same, kept, had)
          ],
    )

pub stand-none : (sitting players : List ℕ) → StandUp sitting sitting (take 0 players)
stand-none sitting players = (refl, λ player. let none : times (take 0 players) player ≡ 0 = refl in omega (arith, none))

pub stand-more : (old now players : List ℕ) (at player : ℕ) → at < length players → get_or players at 0 ≡ player → StandUp old now (take at players)
    → StandUp old (set now player (get_or now player 0 - 1)) (take (at + 1) players)
stand-more old now players at player within is before =
    let count = get_or now player 0 - 1 in (
      length-set now player count ∙ before.0,
      λ who.
          elim (cases_eq player who) [
            | inl same ↦
                let more = times_yes players at who within (is ∙ same) in
                let had = before.1 who in
                let read : get_or now player 0 ≡ get_or now who 0 = ap (λ (it : ℕ). get_or now it 0) same in
                elim (cases_lt player (length now)) [
                  | inl here ↦
                      let new : get_or (set now player count) who 0 ≡ count = subst (λ (it : ℕ). get_or (set now player count) it 0 ≡ count) same (get_or-set_same now player count 0 here) in
                      omega (arith, more, had, new, read)
                  | inr past ↦
                      let new : get_or (set now player count) who 0 ≡ get_or now who 0 = ap (λ (it : List ℕ). get_or it who 0) (set_past now player count past) in
                      let none = get_or_past now player 0 past in
                      omega (arith, more, had, new, read, none)
                ]
            | inr other ↦
                let same = times_no players at who within (λ e. other (sym is ∙ e)) in
                let kept = get_or-set_other now player who count 0 (λ e. other (sym e)) in
                let had = before.1 who in
                omega (arith, same, kept, had)
          ],
    )
