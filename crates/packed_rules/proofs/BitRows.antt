-- Rows of bits, one place after another.
use Rattle.std.proofs.Common.{inl, inr, ℕ, zero, suc, ◌<◌, ◌≤◌, ◌≡◌, ◌≢◌, ◌/◌, ◌%◌, true, false, List, [], ◌∷◌, refl, sym, ◌∙◌, arith, length, set, get_or, length-set, get_or-set_other, get_or-set_same, length-append}
use Rattle.std.specs.Int.{bit_at}
use Rattle.std.proofs.lemmas.List.{get_or_append_left, get_or_push, get_or_past, ext_get_or}
use Rattle.std.proofs.lemmas.Bool.{cases_eq, cases_lt}
use Rattle.std.proofs.Common.{replicate}
use Rattle.std.proofs.lemmas.List.{length-replicate}
use Rattle.std.proofs.lemmas.Nat.Bits.{bit_at-zero}
use Rattle.packed_rules.specs.Bits.{bit_of, bits_of}

pub bits-length : (words : List ℕ) (n : ℕ) → length (bits_of words n) ≡ n
bits-length words zero = refl
bits-length words (suc n) = let e = length-append (bits_of words n) (bit_of words n ∷ []) in let f = bits-length words n in omega (arith, e, f)

pub bits-get : (words : List ℕ) (n i : ℕ) → i < n → get_or (bits_of words n) i false ≡ bit_of words i
bits-get words zero i lt = absurd (omega arith)
bits-get words (suc n) i lt =
    let size = bits-length words n in
    elim (cases_lt i n) [
      | inl h ↦ get_or_append_left (bits_of words n) (bit_of words n ∷ []) false i (omega (arith, size, h)) ∙ bits-get words n i h
      | inr h ↦ let e : i ≡ n = omega (arith, h, lt) in rw e (get_or_push (bits_of words n) (bit_of words n) false n size)
    ]

pub bits-past : (words : List ℕ) (n i : ℕ) → n ≤ i → get_or (bits_of words n) i false ≡ false
bits-past words n i le = let size = bits-length words n in get_or_past (bits_of words n) i false (omega (arith, size, le))

same_place : (i at : ℕ) → i / 64 ≡ at / 64 → i % 64 ≡ at % 64 → i ≡ at
same_place i at d m = omega (arith, d, m)

bit-other : (words : List ℕ) (at word i : ℕ) → at / 64 < length words → ((k : ℕ) → k ≢ at % 64 → bit_at word k ≡ bit_at (get_or words (at / 64) 0) k) → i ≢ at → bit_of (set words (at / 64) word) i ≡ bit_of words i
bit-other words at word i lt kept ne =
    elim (cases_eq (i / 64) (at / 64)) [
      | inl e ↦ let other : i % 64 ≢ at % 64 = λ m. ne (same_place i at e m) in
          rw (e, get_or-set_same words (at / 64) word 0 lt, kept (i % 64) other) refl
      | inr o ↦ rw (get_or-set_other words (at / 64) (i / 64) word 0 o) refl
    ]

bit-same : (words : List ℕ) (at word : ℕ) → at / 64 < length words → bit_at word (at % 64) ≡ 1 → bit_of (set words (at / 64) word) at ≡ true
bit-same words at word lt here = rw (get_or-set_same words (at / 64) word 0 lt, here) refl

pub bits-set : (words : List ℕ) (at word n : ℕ) → at / 64 < length words → bit_at word (at % 64) ≡ 1 → ((k : ℕ) → k ≢ at % 64 → bit_at word k ≡ bit_at (get_or words (at / 64) 0) k) → bits_of (set words (at / 64) word) n ≡ set (bits_of words n) at true
bits-set words at word n lt here kept =
    let next = set words (at / 64) word in
    let a = bits-length next n in
    let b = bits-length words n in
    let c = length-set (bits_of words n) at true in
    ext_get_or false (bits_of next n) (set (bits_of words n) at true) (omega (arith, a, b, c))
    (λ i within. elim (cases_eq i at) [
      | inl e ↦ rw e (bits-get next n at (omega (arith, a, within, e)) ∙ (bit-same words at word lt here ∙ sym (get_or-set_same (bits_of words n) at true false (omega (arith, a, b, within, e)))))
      | inr ne ↦ bits-get next n i (omega (arith, a, within)) ∙ (bit-other words at word i lt kept ne ∙ (sym (bits-get words n i (omega (arith, a, within))) ∙ sym (get_or-set_other (bits_of words n) at i true false ne)))
    ])

bit-zero : (words : List ℕ) (i : ℕ) → get_or words (i / 64) 0 ≡ 0 → bit_of words i ≡ false
bit-zero words i e = rw (e, bit_at-zero (i % 64)) refl

replicated : {X : Type 0} (n i : ℕ) (x : X) → get_or (replicate n x) i x ≡ x
replicated zero i x = refl
replicated (suc n) zero x = refl
replicated (suc n) (suc i) x = replicated n i x

pub bits-zero : (m n : ℕ) → bits_of (replicate m 0) n ≡ replicate n false
bits-zero m n =
    let zeros : List ℕ = replicate m 0 in
    let a = bits-length zeros n in
    let b = length-replicate n false in
    ext_get_or false (bits_of zeros n) (replicate n false) (omega (arith, a, b))
    (λ i within. bits-get zeros n i (omega (arith, a, within)) ∙ (bit-zero zeros i (replicated m (i / 64) 0) ∙ sym (replicated n i false)))
