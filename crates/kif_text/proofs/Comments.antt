-- The bare text has a space for each byte of a comment, and the bytes of the text elsewhere.
use Rattle.std.proofs.Common.{◌≡◌, ◌≢◌, ℕ, zero, suc, ◌<◌, ◌≤◌, List, [], ◌∷◌, length, get_or, Bool, true, false, not, ◌||◌, ◌==◌, cond, refl, sym, ap, subst, ◌∙◌, ◌⊎◌, inl, inr, arith}
use Rattle.std.proofs.lemmas.Bool.{eqb-true, ne_eqb, eq-eqb, and_parts, and_from, true≢false}
use Rattle.game_core.specs.Bytes.{line_feed, space, semicolon}
use Rattle.kif_text.specs.Faults.{is_inside, bare_from}
use Rattle.kif_text.specs.Laws.{InComment, BareHidesComments}

-- whether offset i of t is in a comment; the flag says whether t begins inside one
abbrev flag : Bool → List ℕ → ℕ → Bool
flag v [] i = false
flag v (b ∷ t) zero = is_inside v b
flag v (b ∷ t) (suc i) = flag (is_inside v b) t i

bare_at : (v : Bool) (t : List ℕ) (i : ℕ) → get_or (bare_from v t) i 0 ≡ cond (flag v t i) space (get_or t i 0)
bare_at v [] i = refl
bare_at v (b ∷ t) zero = refl
bare_at v (b ∷ t) (suc i) = bare_at (is_inside v b) t i

abbrev NoLineFeed : List ℕ → ℕ → Type 0
NoLineFeed t i = (j : ℕ) → j ≤ i → get_or t j 0 ≢ line_feed

-- offset i is in a comment that begins in t, or that t begins inside
abbrev Inside : Bool → List ℕ → ℕ → Type 0
Inside v t i = InComment t i ⊎ ((v ≡ true) × NoLineFeed t i)

or_parts : (x y : Bool) → (x || y) ≡ true → (x ≡ true) ⊎ (y ≡ true)
or_parts true y h = inl refl
or_parts false y h = inr h

or_first : (x y : Bool) → x ≡ true → (x || y) ≡ true
or_first true y h = refl
or_first false y h = absurd (true≢false (sym h))

or_second : (x y : Bool) → y ≡ true → (x || y) ≡ true
or_second true y h = refl
or_second false y h = h

not_lf : (b : ℕ) → not (b == line_feed) ≡ true → b ≢ line_feed
not_lf b h e = true≢false (sym h ∙ ap not (eq-eqb b line_feed e))

lf_not : (b : ℕ) → b ≢ line_feed → not (b == line_feed) ≡ true
lf_not b h = ap not (ne_eqb b line_feed h)

no_lf_zero : (b : ℕ) (t : List ℕ) → b ≢ line_feed → NoLineFeed (b ∷ t) 0
no_lf_zero b t h zero le = h
no_lf_zero b t h (suc j) le = absurd (omega (arith, le))

no_lf_cons : (b : ℕ) (t : List ℕ) (i : ℕ) → b ≢ line_feed → NoLineFeed t i → NoLineFeed (b ∷ t) (suc i)
no_lf_cons b t i h k zero le = h
no_lf_cons b t i h k (suc j) le = k j (omega (arith, le))

inside_parts : (v : Bool) (b : ℕ) → is_inside v b ≡ true → ((v ≡ true) ⊎ (b ≡ semicolon)) × (b ≢ line_feed)
inside_parts v b h =
    let p = and_parts (v || b == semicolon) (not (b == line_feed)) h in
    (elim (or_parts v (b == semicolon) p.0) [ inl e ↦ inl e | inr e ↦ inr (eqb-true b semicolon e) ], not_lf b p.1)

begins : (b : ℕ) (t : List ℕ) (i : ℕ) (v : Bool) → (v ≡ true) ⊎ (b ≡ semicolon) → NoLineFeed (b ∷ t) i → Inside v (b ∷ t) i
begins b t i v h k = elim h [ inl e ↦ inr (e, k) | inr e ↦ inl (0, omega arith, e, λ j low le. k j le) ]

later_lf : (b : ℕ) (t : List ℕ) (k i : ℕ) → ((j : ℕ) → k ≤ j → j ≤ i → get_or t j 0 ≢ line_feed) → (j : ℕ) → suc k ≤ j → j ≤ suc i → get_or (b ∷ t) j 0 ≢ line_feed
later_lf b t k i h zero low le = absurd (omega (arith, low))
later_lf b t k i h (suc j) low le = h j (omega (arith, low)) (omega (arith, le))

flag_inside : (v : Bool) (t : List ℕ) (i : ℕ) → flag v t i ≡ true → Inside v t i
flag_inside v [] i h = absurd (true≢false (sym h))
flag_inside v (b ∷ t) zero h = let p = inside_parts v b h in begins b t 0 v p.0 (no_lf_zero b t p.1)
flag_inside v (b ∷ t) (suc i) h =
    elim (flag_inside (is_inside v b) t i h) [
      | inl q ↦ inl (suc q.0, omega (arith, q.1), q.2, later_lf b t q.0 i q.3)
      | inr q ↦ (let p = inside_parts v b q.0 in begins b t (suc i) v p.0 (no_lf_cons b t i p.1 q.1))
    ]

is_in : (v : Bool) (b : ℕ) → (v ≡ true) ⊎ (b ≡ semicolon) → b ≢ line_feed → is_inside v b ≡ true
is_in v b h k = and_from (v || b == semicolon) (not (b == line_feed)) (elim h [ inl e ↦ or_first v (b == semicolon) e | inr e ↦ or_second v (b == semicolon) (eq-eqb b semicolon e) ]) (lf_not b k)

from_here : (v : Bool) (b : ℕ) (t : List ℕ) (i k : ℕ) → k ≤ suc i → get_or (b ∷ t) k 0 ≡ semicolon → ((j : ℕ) → k ≤ j → j ≤ suc i → get_or (b ∷ t) j 0 ≢ line_feed) → Inside (is_inside v b) t i
from_here v b t i zero le semi clear = inr (is_in v b (inr semi) (clear 0 (omega arith) (omega arith)), λ j below. clear (suc j) (omega arith) (omega arith))
from_here v b t i (suc k) le semi clear = inl (k, omega (arith, le), semi, λ j low below. clear (suc j) (omega arith) (omega arith))

inside_flag : (v : Bool) (t : List ℕ) (i : ℕ) → i < length t → Inside v t i → flag v t i ≡ true
inside_flag v [] i lt h = absurd (omega (arith, lt))
inside_flag v (b ∷ t) zero lt h =
    elim h [
      | inl q ↦ (let z : q.0 ≡ 0 = omega (arith, q.1) in
          let semi = subst (λ (k : ℕ). get_or (b ∷ t) k 0 ≡ semicolon) z q.2 in
          is_in v b (inr semi) (q.3 0 (omega (arith, q.1)) (omega arith)))
      | inr q ↦ is_in v b (inl q.0) (q.1 0 (omega arith))
    ]
inside_flag v (b ∷ t) (suc i) lt h =
    inside_flag (is_inside v b) t i (omega (arith, lt)) (elim h [
      | inl q ↦ from_here v b t i q.0 q.1 q.2 q.3
      | inr q ↦ inr (is_in v b (inl q.0) (q.1 0 (omega arith)), λ j le. q.1 (suc j) (omega arith))
    ])

no_flag : (text : List ℕ) (i : ℕ) (h : Inside false text i) → InComment text i
no_flag text i h = elim h [ inl q ↦ q | inr q ↦ absurd (true≢false (sym q.0)) ]

outside : (text : List ℕ) (i : ℕ) (v : Bool) → flag false text i ≡ v → (InComment text i → ⊥) → flag false text i ≡ false
outside text i true e h = absurd (h (no_flag text i (flag_inside false text i e)))
outside text i false e h = e

pub bare_hides_comments : BareHidesComments
bare_hides_comments text i lt =
    (λ h. bare_at false text i ∙ ap (λ (v : Bool). cond v space (get_or text i 0)) (inside_flag false text i lt (inl h)), λ h. bare_at false text i ∙ ap (λ (v : Bool). cond v space (get_or text i 0)) (outside text i (flag false text i) refl h))
