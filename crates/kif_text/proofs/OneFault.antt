-- A text has at most one error apart from out of memory.
use Rattle.std.proofs.Common.{◌≡◌, ℕ, ◌<◌, ◌≤◌, List, length, Bool, true, false, ◌||◌, ◌&&◌, ◌==◌, refl, sym, ap, subst, ◌∙◌, inl, inr, get_or, arith}
use Rattle.std.proofs.lemmas.Bool.{cases_lt, eqb-true, and_parts, true≢false}
use Rattle.game_core.specs.Bytes.{left_parenthesis, right_parenthesis, is_white, is_atom_byte}
use Rattle.game_core.specs.Expression.{max_depth}
use Rattle.kif_text.specs.Faults.{bare, is_known, level, begins, starts, StandsAt, IsClear, IsFirst, IsUnclosed, IsNothing, IsFaultUpTo}
use Rattle.kif_text.specs.Laws.{OneFaultAtMost}
use Rattle.kif_text.specs.declared.fault.KifFault.{KifFault}
use Rattle.kif_text.specs.declared.fault.KifFault.TheVariants.{BadByte, Unopened, TooDeep, Unclosed, Nothing, More, TooLong, Memory}
use Rattle.kif_text.proofs.FirstFault.{length_bare}
use Rattle.kif_text.proofs.NeverBoth.{within}

abbrev Unknown : List ℕ → ℕ → Type 0
Unknown t i = is_known (get_or t i 0) ≡ false

abbrev Closing : List ℕ → ℕ → Type 0
Closing t i = (get_or t i 0 ≡ right_parenthesis) × (level t i ≡ 0)

abbrev Opening : List ℕ → ℕ → Type 0
Opening t i = (get_or t i 0 ≡ left_parenthesis) × (level t i ≡ max_depth)

abbrev Starting : List ℕ → ℕ → Type 0
Starting t i = starts t i ≡ true

not_closing : (t : List ℕ) (i : ℕ) → Unknown t i → Closing t i → ⊥
not_closing t i h k = true≢false (ap is_known (sym k.0) ∙ h)

not_opening : (t : List ℕ) (i : ℕ) → Unknown t i → Opening t i → ⊥
not_opening t i h k = true≢false (ap is_known (sym k.0) ∙ h)

begins_known : (white paren atom other v : Bool) → (paren || (atom && v)) ≡ true → (white || atom || paren || other) ≡ true
begins_known true paren atom other v h = refl
begins_known false true true other v h = refl
begins_known false true false other v h = refl
begins_known false false true other v h = refl
begins_known false false false other v h = absurd (true≢false (sym h))

starting_known : (x : ℕ) (v : Bool) → (x == left_parenthesis || (is_atom_byte x && v)) ≡ true → is_known x ≡ true
starting_known x v h = begins_known (is_white x) (x == left_parenthesis) (is_atom_byte x) (x == right_parenthesis) v h

not_starting : (t : List ℕ) (i : ℕ) → Unknown t i → Starting t i → ⊥
not_starting t i h k =
    let begun = (and_parts (level t i == 0) (begins t i) k).1 in
    true≢false (sym (starting_known (get_or t i 0) _ begun) ∙ h)

one_byte : (x : ℕ) → x ≡ left_parenthesis → x ≡ right_parenthesis → ⊥
one_byte x e d = omega arith

closing_starts : (x : ℕ) (v : Bool) → x ≡ right_parenthesis → (x == left_parenthesis || (is_atom_byte x && v)) ≡ true → ⊥
closing_starts x v e h = true≢false (sym (subst (λ (y : ℕ). (y == left_parenthesis || (is_atom_byte y && v)) ≡ true) e h))

closing_not_starting : (t : List ℕ) (i : ℕ) → Closing t i → Starting t i → ⊥
closing_not_starting t i h k = closing_starts (get_or t i 0) _ h.0 (and_parts (level t i == 0) (begins t i) k).1

opening_not_starting : (t : List ℕ) (i : ℕ) → Opening t i → Starting t i → ⊥
opening_not_starting t i h k = let flat = eqb-true (level t i) 0 (and_parts (level t i == 0) (begins t i) k).0 in omega (arith, h.1, flat)

unknown_at : (t : List ℕ) (at i : ℕ) → at ≡ i → is_known (get_or t at 0) ≡ false → Unknown t i
unknown_at t at i e h = subst (Unknown t) e h

closing_at : (t : List ℕ) (at i : ℕ) → at ≡ i → get_or t at 0 ≡ right_parenthesis → level t at ≡ 0 → Closing t i
closing_at t at i e h k = subst (Closing t) e (h, k)

opening_at : (t : List ℕ) (at i : ℕ) → at ≡ i → get_or t at 0 ≡ left_parenthesis → level t at ≡ max_depth → Opening t i
opening_at t at i e h k = subst (Opening t) e (h, k)

starting_at : (t : List ℕ) (at i : ℕ) → at ≡ i → starts t at ≡ true → Starting t i
starting_at t at i e h = subst (Starting t) e h

stands_once : (one : Bool) (t : List ℕ) (i : ℕ) (d e : KifFault) → StandsAt one t d i → StandsAt one t e i → d ≡ e
stands_once one t i (BadByte a) (BadByte b) h k = ap (λ (n : ℕ). BadByte n) (h.0 ∙ sym k.0)
stands_once one t i (BadByte a) (Unopened b) h k = absurd (not_closing t i (unknown_at t a i h.0 h.2) (closing_at t b i k.0 k.1 k.2))
stands_once one t i (BadByte a) (TooDeep b) h k = absurd (not_opening t i (unknown_at t a i h.0 h.2) (opening_at t b i k.0 k.1 k.2))
stands_once one t i (BadByte a) (More b) h k = absurd (not_starting t i (unknown_at t a i h.0 h.2) (starting_at t b i k.1 k.3))
stands_once one t i (BadByte a) e h k = absurd k
stands_once one t i (Unopened a) (BadByte b) h k = absurd (not_closing t i (unknown_at t b i k.0 k.2) (closing_at t a i h.0 h.1 h.2))
stands_once one t i (Unopened a) (Unopened b) h k = ap (λ (n : ℕ). Unopened n) (h.0 ∙ sym k.0)
stands_once one t i (Unopened a) (TooDeep b) h k = absurd (one_byte _ (opening_at t b i k.0 k.1 k.2).0 (closing_at t a i h.0 h.1 h.2).0)
stands_once one t i (Unopened a) (More b) h k = absurd (closing_not_starting t i (closing_at t a i h.0 h.1 h.2) (starting_at t b i k.1 k.3))
stands_once one t i (Unopened a) e h k = absurd k
stands_once one t i (TooDeep a) (BadByte b) h k = absurd (not_opening t i (unknown_at t b i k.0 k.2) (opening_at t a i h.0 h.1 h.2))
stands_once one t i (TooDeep a) (Unopened b) h k = absurd (one_byte _ (opening_at t a i h.0 h.1 h.2).0 (closing_at t b i k.0 k.1 k.2).0)
stands_once one t i (TooDeep a) (TooDeep b) h k = ap (λ (n : ℕ). TooDeep n) (h.0 ∙ sym k.0)
stands_once one t i (TooDeep a) (More b) h k = absurd (opening_not_starting t i (opening_at t a i h.0 h.1 h.2) (starting_at t b i k.1 k.3))
stands_once one t i (TooDeep a) e h k = absurd k
stands_once one t i (More a) (BadByte b) h k = absurd (not_starting t i (unknown_at t b i k.0 k.2) (starting_at t a i h.1 h.3))
stands_once one t i (More a) (Unopened b) h k = absurd (closing_not_starting t i (closing_at t b i k.0 k.1 k.2) (starting_at t a i h.1 h.3))
stands_once one t i (More a) (TooDeep b) h k = absurd (opening_not_starting t i (opening_at t b i k.0 k.1 k.2) (starting_at t a i h.1 h.3))
stands_once one t i (More a) (More b) h k = ap (λ (n : ℕ). More n) (h.1 ∙ sym k.1)
stands_once one t i (More a) e h k = absurd k
stands_once one t i d e h k = absurd h

-- a text has only one first error
first_once : (one : Bool) (t : List ℕ) (d e : KifFault) → IsFirst one t d → IsFirst one t e → d ≡ e
first_once one t d e h k =
    elim (cases_lt h.0 k.0) [
      | inl p ↦ absurd (k.2 d h.0 p h.1)
      | inr p ↦ elim (cases_lt k.0 h.0) [
        | inl q ↦ absurd (h.2 e k.0 q k.1)
        | inr q ↦ (let same : k.0 ≡ h.0 = omega arith in stands_once one t h.0 d e h.1 (subst (λ (n : ℕ). StandsAt one t e n) same k.1))
      ]
    ]

-- the offset of an error is within the text
stands_within : (one : Bool) (t : List ℕ) (i : ℕ) (e : KifFault) → StandsAt one t e i → i < length t
stands_within one t i (BadByte at) h = omega (arith, h.0, h.1)
stands_within one t i (Unopened at) h = within t at i h.0 h.1 (omega arith)
stands_within one t i (TooDeep at) h = within t at i h.0 h.1 (omega arith)
stands_within one t i (More at) h = omega (arith, h.1, h.2)
stands_within one t i e h = absurd h

-- errors at the end of the text

abbrev StandsAtEnd : List ℕ → KifFault → Type 0
StandsAtEnd t (Unclosed at) = IsUnclosed t at
StandsAtEnd t Nothing = IsNothing t
StandsAtEnd t e = ⊥

end_once : (t : List ℕ) (d e : KifFault) → StandsAtEnd t d → StandsAtEnd t e → d ≡ e
end_once t (Unclosed a) (Unclosed b) h k =
    let low = k.2 a h.1 in
    let high = h.2 b k.1 in
    let same : a ≡ b = omega arith in
    ap (λ (n : ℕ). Unclosed n) same
end_once t (Unclosed a) Nothing h k = absurd (omega (arith, h.0, k.0))
end_once t (Unclosed a) e h k = absurd k
end_once t Nothing (Unclosed b) h k = absurd (omega (arith, h.0, k.0))
end_once t Nothing Nothing h k = refl
end_once t Nothing e h k = absurd k
end_once t d e h k = absurd h

-- the kinds of errors
data Kind (limit : ℕ) (one : Bool) (text : List ℕ) (e : KifFault) : Type 0 where
  too_long : e ≡ TooLong → limit < length text → Kind limit one text e
  at_place : length text ≤ limit → IsFirst one (bare text) e → Kind limit one text e
  at_end : length text ≤ limit → IsClear one (bare text) (length text) → StandsAtEnd (bare text) e → Kind limit one text e

kind_of : (limit : ℕ) (one : Bool) (text : List ℕ) (e : KifFault) → (e ≡ Memory → ⊥) → IsFaultUpTo limit one text e → Kind limit one text e
kind_of limit one text (BadByte at) other h = at_place h.0 h.1
kind_of limit one text (Unopened at) other h = at_place h.0 h.1
kind_of limit one text (TooDeep at) other h = at_place h.0 h.1
kind_of limit one text (More at) other h = at_place h.0 h.1
kind_of limit one text (Unclosed at) other h = at_end h.0 h.1 h.2
kind_of limit one text Nothing other h = at_end h.0 h.2 h.3
kind_of limit one text TooLong other h = too_long refl h
kind_of limit one text Memory other h = absurd (other refl)

not_at_end : (one : Bool) (text : List ℕ) (e : KifFault) → IsFirst one (bare text) e → IsClear one (bare text) (length text) → ⊥
not_at_end one text e h clear =
    let inside = stands_within one (bare text) h.0 e h.1 in
    let same = length_bare text false in
    clear e h.0 (omega (arith, inside, same)) h.1

same_kind : (limit : ℕ) (one : Bool) (text : List ℕ) (d e : KifFault) → Kind limit one text d → Kind limit one text e → d ≡ e
same_kind limit one text d e (too_long a h) (too_long b k) = a ∙ sym b
same_kind limit one text d e (too_long a h) (at_place le k) = absurd (omega (arith, h, le))
same_kind limit one text d e (too_long a h) (at_end le clear k) = absurd (omega (arith, h, le))
same_kind limit one text d e (at_place le h) (too_long b k) = absurd (omega (arith, k, le))
same_kind limit one text d e (at_place le h) (at_place ge k) = first_once one (bare text) d e h k
same_kind limit one text d e (at_place le h) (at_end ge clear k) = absurd (not_at_end one text d h clear)
same_kind limit one text d e (at_end le clear h) (too_long b k) = absurd (omega (arith, k, le))
same_kind limit one text d e (at_end le clear h) (at_place ge k) = absurd (not_at_end one text e k clear)
same_kind limit one text d e (at_end le clear h) (at_end ge other k) = end_once (bare text) d e h k

pub one_fault_at_most : OneFaultAtMost
one_fault_at_most limit one text d e other another h k = same_kind limit one text d e (kind_of limit one text d other h) (kind_of limit one text e another k)
