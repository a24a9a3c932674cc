-- Opening one more line.
use Rattle.std.proofs.Common.{◌≡◌, ℕ, ◌<◌, ◌≢◌, List, [], ◌∷◌, ◌++◌, length, get_or, sym, ◌∙◌, subst, arith, ⊎_elim, true, false}
use Rattle.std.proofs.lemmas.Grind.{common_steps}
use Rattle.std.proofs.lemmas.List.{get_or_append_left, get_or_push}
use Rattle.std.proofs.lemmas.Bool.Decides.{eqb_tells}
use Rattle.std.proofs.Math.Dec.{eqb}
use Rattle.call_history.specs.declared.port.Port.{Port}
use Rattle.call_history.specs.RingLines.{LineValue, posted_calls, taken_replies, AreNewLines, IsNewLine, IsPortOf}

module _ {C R : Type 0} where
  pub new_lines_snoc : (ps : List (Port C R)) (ls : List (LineValue C R)) (p : Port C R) (l : LineValue C R)
      → length ps ≡ length ls → AreNewLines ps ls → l.number ≡ length ls → IsPortOf p l → posted_calls l ≡ [] → taken_replies l ≡ []
      → AreNewLines (ps ++ p ∷ []) (ls ++ l ∷ [])
  new_lines_snoc ps ls p l same all number rings posted taken = λ i d below.
      let P : LineValue C R → Type 0 = λ x. IsNewLine (ps ++ p ∷ []) i x in
      let Q : LineValue C R → Port C R → Type 0 = λ x y. IsPortOf y x in
      ⊎_elim
      (λ (e : (eqb i (length ls) ≡ true) × (i ≡ length ls)).
      subst P (sym (get_or_push ls l d i (sym e.1))) (record {
        number_is = number ∙ sym e.1;
        rings = λ q. subst (Q l) (sym (get_or_push ps p q i (same ∙ sym e.1))) rings;
        posted = posted;
        taken = taken;
      }))
      (λ (n : (eqb i (length ls) ≡ false) × (i ≢ length ls)).
      let lt : i < length ls = grind (arith, common_steps, below) in
      let f = all i d lt in
      let lt' : i < length ps = omega arith in
      subst P (sym (get_or_append_left ls (l ∷ []) d i lt)) (record {
        number_is = f.number_is;
        rings = λ q. subst (Q (get_or ls i d)) (sym (get_or_append_left ps (p ∷ []) q i lt')) (f.rings q);
        posted = f.posted;
        taken = f.taken;
      }))
      (eqb_tells i (length ls))
