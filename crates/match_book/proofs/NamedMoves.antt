-- The move that a text names, and its index.
use Rattle.std.proofs.Common.{◌≡◌, ◌≢◌, ◌≤◌, ℕ, zero, suc, Bool, true, false, Some, None, List, [], ◌∷◌, length, refl, sym, ap, ◌∙◌, subst, arith}
use Rattle.std.specs.Prelude.{bytes_eq, slice_get, nat_le, All}
use Rattle.std.proofs.lemmas.Bool.Decides.{nat_tests}
use Rattle.std.proofs.lemmas.Option.{get_or_from_slice_get}
use Rattle.std.proofs.lemmas.Slice.Eq.{bytes_eq-Decides}
use Rattle.game_core.specs.Canonical.{canonical}
use Rattle.game_core.specs.Play.{Rules, IsLawful}
use Rattle.kif_text.specs.Laws.{FoldedTextReadsBack}
use Rattle.match_book.specs.AnswerReading.{answer_reading, max_answer}
use Rattle.match_book.specs.Judgement.{move_named, NamesNone, IsPlaceOf, judged_reading}

pub same_text : (xs : List ℕ) → bytes_eq xs xs ≡ true
same_text xs = (bytes_eq-Decides xs xs).1 refl

other_text : (xs ys : List ℕ) → xs ≢ ys → bytes_eq xs ys ≡ false
other_text xs ys ne = step (bytes_eq xs ys) refl
  where
    step : (b : Bool) → bytes_eq xs ys ≡ b → b ≡ false
    step true is = absurd (ne ((bytes_eq-Decides xs ys).0 is))
    step false is = refl

pub place_none : {S M : Type 0} (g : Rules S M) (moves : List M) (x : List ℕ) → NamesNone g moves x → move_named g moves x ≡ None
place_none g [] x none = refl
place_none g (m ∷ ms) x none = rw (other_text (g.move_text m) x (none 0 m (omega arith))) (place_none g ms x (λ k d lt. none (suc k) d (omega arith)))

pub place_some : {S M : Type 0} (g : Rules S M) (moves : List M) (x : List ℕ) (p : ℕ) → IsPlaceOf g moves x (Some p) → move_named g moves x ≡ slice_get moves p
place_some g [] x p (within, named, first) = absurd (omega arith)
place_some g (m ∷ ms) x zero (within, named, first) = rw (named m, same_text x) refl
place_some g (m ∷ ms) x (suc p) (within, named, first) =
    rw (other_text (g.move_text m) x (first 0 m (omega arith) (omega arith)))
    (place_some g ms x p (omega arith, named, λ k d low lt. first (suc k) d (omega arith) (omega arith)))

module _ {S M : Type 0} (g : Rules S M) (laws : IsLawful g) (reads_back : FoldedTextReadsBack) where
  move_text_reads : (m : M) → g.IsMove m → length (g.move_text m) ≤ max_answer → answer_reading (g.move_text m) ≡ Some (g.move_text m)
  unfolding answer_reading
  move_text_reads m is short =
      let back = reads_back (g.move_text m) (laws.move_texts_folded m is) (omega (arith, short)) in
      let within : nat_le (length (g.move_text m)) max_answer ≡ true = grind (arith, nat_tests) in
      rw (within, back.1) (ap Some (ap canonical back.3 ∙ sym back.4))

  pub named_as_it_stands : (moves : List M) (x : List ℕ) (p : ℕ) (m : M) → All (λ n. g.IsMove n) moves → length x ≤ max_answer → IsPlaceOf g moves x (Some p) → slice_get moves p ≡ Some m
      → Some (record { taken = m; error = [] }) ≡ judged_reading g moves (answer_reading x)
  named_as_it_stands moves x p m are short place at =
      let here = get_or_from_slice_get moves p m m at in
      let is = subst (λ n. g.IsMove n) here (are p m place.0) in
      let text = subst (λ n. g.move_text n ≡ x) here (place.1 m) in
      let reads = subst (λ t. answer_reading t ≡ Some t) text (move_text_reads m is (omega (arith, short, ap length text))) in
      rw (reads, place_some g moves x p place, at) refl
