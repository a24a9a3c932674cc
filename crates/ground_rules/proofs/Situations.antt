-- A situation with names, and the same one with numbers.
use Rattle.std.proofs.Common.{◌≡◌, ℕ, zero, suc, ◌<◌, Bool, true, false, not, ◌&&◌, ◌||◌, if◌then◌else◌, nat_eq, bytes_eq, List, [], ◌∷◌, length, get_or, map, refl, sym, ap, ◌∙◌, arith}
use mathlib.Core.Bool.{or-false}
use Rattle.std.specs.Prelude.{slice_get}
use Rattle.ground_rules.specs.declared.state.GroundMove.{GroundMove}
use Rattle.ground_rules.specs.Lawfulness.Bools.{and-left, and-right, not-true, or-false-left, or-false-right}
use Rattle.ground_rules.specs.Lawfulness.Names.{text-sound, text-same}
use Rattle.rule_sentences.specs.Descriptions.{is_among, are_different}
use Rattle.ground_rules.specs.Described.{makes}
use Rattle.ground_rules.specs.Lookups.{picked}
use Rattle.numbered_rules.specs.Numbered.{bit, is_number}
use Rattle.ground_rules.specs.Internal.Resolved.{place}
use Rattle.ground_rules.proofs.NameLists.{eq-swap}
use Rattle.ground_rules.proofs.TablePlaces.{Decides, place-same}

pub text-decides : Decides bytes_eq
text-decides = record { sound = text-sound; itself = λ x. text-same x x refl }

not-picked : (row : List Bool) (ts : List (List ℕ)) (t : List ℕ) → is_among ts t ≡ false → is_among (picked row ts) t ≡ false
not-picked [] ts t h = refl
not-picked (b ∷ bs) [] t h = refl
not-picked (true ∷ bs) (x ∷ xs) t h = rw (or-false-left (bytes_eq x t) _ h) (not-picked bs xs t (or-false-right (bytes_eq x t) _ h))
not-picked (false ∷ bs) (x ∷ xs) t h = not-picked bs xs t (or-false-right (bytes_eq x t) _ h)

bit-past : (row : List Bool) (n : ℕ) → bit [] n ≡ false
bit-past row zero = refl
bit-past row (suc n) = refl

pub picked-bit : (row : List Bool) (ts : List (List ℕ)) (t : List ℕ) → length row ≡ length ts → are_different ts ≡ true → is_among (picked row ts) t ≡ bit row (place bytes_eq ts t)
picked-bit [] ts t size differ = sym (bit-past [] (place bytes_eq ts t))
picked-bit (b ∷ bs) [] t size differ = absurd (omega (arith, size))
picked-bit (b ∷ bs) (x ∷ xs) t size differ = by-same b (bytes_eq t x) refl (picked-bit bs xs t (omega (arith, size)) (and-right (not (is_among xs x)) _ differ))
  where
    by-same : (c same : Bool) → bytes_eq t x ≡ same → is_among (picked bs xs) t ≡ bit bs (place bytes_eq xs t)
        → is_among (if c then x ∷ picked bs xs else picked bs xs) t ≡ bit (c ∷ bs) (if same then 0 else suc (place bytes_eq xs t))
    by-same true true is rest = rw (eq-swap x t ∙ is) refl
    by-same true false is rest = rw (eq-swap x t ∙ is) rest
    by-same false true is rest = not-picked bs xs t (ap (is_among xs) (text-sound t x is) ∙ not-true (is_among xs x) (and-left (not (is_among xs x)) _ differ))
    by-same false false is rest = rest

no-role : (ns ms : List (List ℕ)) (r m : List ℕ) → is_among ns r ≡ false → makes ns ms r m ≡ false
no-role [] ms r m h = refl
no-role (n ∷ ns) [] r m h = refl
no-role (n ∷ ns) (x ∷ xs) r m h = rw (or-false-left (bytes_eq n r) _ h) (no-role ns xs r m (or-false-right (bytes_eq n r) _ h))

abbrev pub text_of : List (List ℕ) → GroundMove → List ℕ
text_of terms m = get_or terms m.term []

pub different-place : (ts : List (List ℕ)) (k : ℕ) → are_different ts ≡ true → k < length ts → place bytes_eq ts (get_or ts k []) ≡ k
different-place [] k differ lt = absurd (omega (arith, lt))
different-place (x ∷ xs) zero differ lt = rw (text-same x x refl) refl
different-place (x ∷ xs) (suc k) differ lt =
    let y = get_or xs k [] in
    by-same (bytes_eq y x) refl (different-place xs k (and-right (not (is_among xs x)) _ differ) (omega (arith, lt))) (is-in xs k (omega (arith, lt)))
  where
    is-in : (ys : List (List ℕ)) (j : ℕ) → j < length ys → is_among ys (get_or ys j []) ≡ true
    is-in [] j lt = absurd (omega (arith, lt))
    is-in (y ∷ ys) zero lt = rw (text-same y y refl) refl
    is-in (y ∷ ys) (suc j) lt = later (bytes_eq y (get_or ys j [])) (is-in ys j (omega (arith, lt)))
      where
        later : (b : Bool) → is_among ys (get_or ys j []) ≡ true → (b || is_among ys (get_or ys j [])) ≡ true
        later true h = refl
        later false h = h

    by-same : (b : Bool) → bytes_eq (get_or xs k []) x ≡ b → place bytes_eq xs (get_or xs k []) ≡ k → is_among xs (get_or xs k []) ≡ true → (if b then 0 else suc (place bytes_eq xs (get_or xs k []))) ≡ suc k
    by-same true is rest there =
        let f = ap (is_among xs) (text-sound (get_or xs k []) x is) in
        let g = not-true (is_among xs x) (and-left (not (is_among xs x)) _ differ) in
        absurd cc
    by-same false is rest there = ap suc rest

same-term : (ts : List (List ℕ)) (k : ℕ) (m : List ℕ) → are_different ts ≡ true → k < length ts → bytes_eq (get_or ts k []) m ≡ nat_eq k (place bytes_eq ts m)
same-term ts k m differ lt =
    let at = different-place ts k differ lt in
    place-same bytes_eq text-decides ts (get_or ts k []) m (omega (arith, at, lt)) ∙ ap (λ j. nat_eq j (place bytes_eq ts m)) at

pub makes-bit : (ns ts : List (List ℕ)) (js : List GroundMove) (r m : List ℕ) → length js ≡ length ns → are_different ns ≡ true → are_different ts ≡ true → ((k : ℕ) (d : GroundMove) → k < length js → (get_or js k d).term < length ts)
    → makes ns (map (text_of ts) js) r m ≡ is_number (slice_get (map (λ (j : GroundMove). j.term) js) (place bytes_eq ns r)) (place bytes_eq ts m)
makes-bit [] ts [] r m size differ differ' within = refl
makes-bit [] ts (j ∷ js) r m size differ differ' within = absurd (omega (arith, size))
makes-bit (n ∷ ns) ts [] r m size differ differ' within = absurd (omega (arith, size))
makes-bit (n ∷ ns) ts (j ∷ js) r m size differ differ' within =
    by-same (bytes_eq r n) refl (makes-bit ns ts js r m (omega (arith, size)) (and-right (not (is_among ns n)) _ differ) differ' (λ k d lt. within (suc k) d (omega (arith, lt))))
  where
    by-same : (b : Bool) → bytes_eq r n ≡ b → makes ns (map (text_of ts) js) r m ≡ is_number (slice_get (map (λ (i : GroundMove). i.term) js) (place bytes_eq ns r)) (place bytes_eq ts m)
        → ((bytes_eq n r && bytes_eq (text_of ts j) m) || makes ns (map (text_of ts) js) r m) ≡ is_number (slice_get (j.term ∷ map (λ (i : GroundMove). i.term) js) (if b then 0 else suc (place bytes_eq ns r))) (place bytes_eq ts m)
    by-same true is rest =
        let none = no-role ns (map (text_of ts) js) r m (ap (is_among ns) (text-sound r n is) ∙ not-true (is_among ns n) (and-left (not (is_among ns n)) _ differ)) in
        rw (eq-swap n r ∙ is, none, or-false (bytes_eq (text_of ts j) m)) (same-term ts j.term m differ' (within 0 j (omega arith)))
    by-same false is rest = rw (eq-swap n r ∙ is) rest
