-- Converting a text or a proper expression to lower case, and converting twice.
use Rattle.std.proofs.Common.{◌≡◌, ℕ, suc, ◌+◌, map, List, [], ◌∷◌, ◌++◌, Bool, true, false, nat_le, cond, ◌&&◌, refl, sym, ap, ◌∙◌, arith}
use Rattle.std.proofs.lemmas.List.{map-append, length-map}
use Rattle.std.proofs.lemmas.Bool.Decides.{nat_tests}
use Rattle.game_core.specs.Bytes.{space, left_parenthesis, right_parenthesis, is_atom_byte, lower}
use Rattle.game_core.specs.Expression.{Expression, atom, list, Expressions, none, more, depth, depth_all, folded, all_folded, AreAtomBytes, HasAtoms, AllHaveAtoms}
use Rattle.game_core.specs.Canonical.{canonical, members, later}
use Rattle.kif_text.specs.Laws.{FoldingCommutesWithPrinting, FoldingKeepsProper, FoldingTwiceIsOnce}

mutual
  one_folds : (x : Expression) → canonical (folded x) ≡ map lower (canonical x)
  one_folds (atom w) = refl
  one_folds (list xs) = ap (λ (t : List ℕ). left_parenthesis ∷ (t ++ right_parenthesis ∷ [])) (members_fold xs) ∙ ap (λ (t : List ℕ). left_parenthesis ∷ t) (sym (map-append lower (members xs) (right_parenthesis ∷ [])))

  members_fold : (xs : Expressions) → members (all_folded xs) ≡ map lower (members xs)
  members_fold none = refl
  members_fold (more x xs) = ap (λ (t : List ℕ). t ++ later (all_folded xs)) (one_folds x) ∙ ap (λ (t : List ℕ). map lower (canonical x) ++ t) (later_fold xs) ∙ sym (map-append lower (canonical x) (later xs))

  later_fold : (xs : Expressions) → later (all_folded xs) ≡ map lower (later xs)
  later_fold none = refl
  later_fold (more x xs) = ap (λ (t : List ℕ). space ∷ (t ++ later (all_folded xs))) (one_folds x) ∙ ap (λ (t : List ℕ). space ∷ (map lower (canonical x) ++ t)) (later_fold xs) ∙ ap (λ (t : List ℕ). space ∷ t) (sym (map-append lower (canonical x) (later xs)))

pub folding_commutes_with_printing : FoldingCommutesWithPrinting
folding_commutes_with_printing = one_folds

small : (b : ℕ) (v : Bool) → (nat_le 65 b && nat_le b 90) ≡ v → is_atom_byte b ≡ true → is_atom_byte (cond v (b + 32) b) ≡ true
small b true e h = grind (arith, nat_tests)
small b false e h = h

bytes_fold : (w : List ℕ) → AreAtomBytes w → AreAtomBytes (map lower w)
bytes_fold [] h = tt
bytes_fold (b ∷ w) h = (small b (nat_le 65 b && nat_le b 90) refl h.0, bytes_fold w h.1)

mutual
  atoms_fold : (x : Expression) → HasAtoms x → HasAtoms (folded x)
  atoms_fold (atom w) h = (omega (arith, length-map w lower, h.0), bytes_fold w h.1)
  atoms_fold (list xs) h = all_atoms_fold xs h

  all_atoms_fold : (xs : Expressions) → AllHaveAtoms xs → AllHaveAtoms (all_folded xs)
  all_atoms_fold none h = tt
  all_atoms_fold (more x xs) h = (atoms_fold x h.0, all_atoms_fold xs h.1)

mutual
  depth_fold : (x : Expression) → depth (folded x) ≡ depth x
  depth_fold (atom w) = refl
  depth_fold (list xs) = ap suc (depths_fold xs)

  depths_fold : (xs : Expressions) → depth_all (all_folded xs) ≡ depth_all xs
  depths_fold none = refl
  depths_fold (more x xs) = omega (arith, depth_fold x, depths_fold xs)

pub folding_keeps_proper : FoldingKeepsProper
folding_keeps_proper x h = (atoms_fold x h.0, omega (arith, depth_fold x, h.1))

lower_twice : (b : ℕ) (v : Bool) → (nat_le 65 b && nat_le b 90) ≡ v → lower (cond v (b + 32) b) ≡ cond v (b + 32) b
lower_twice b true e = grind (arith, nat_tests)
lower_twice b false e = rw e refl

bytes_twice : (w : List ℕ) → map lower (map lower w) ≡ map lower w
bytes_twice [] = refl
bytes_twice (b ∷ w) = let first = lower_twice b (nat_le 65 b && nat_le b 90) refl in let rest = bytes_twice w in cc

mutual
  folds_once : (x : Expression) → folded (folded x) ≡ folded x
  folds_once (atom w) = ap (λ (v : List ℕ). atom v) (bytes_twice w)
  folds_once (list xs) = ap (λ (ys : Expressions). list ys) (all_fold_once xs)

  all_fold_once : (xs : Expressions) → all_folded (all_folded xs) ≡ all_folded xs
  all_fold_once none = refl
  all_fold_once (more x xs) = ap (λ (y : Expression). more y (all_folded (all_folded xs))) (folds_once x) ∙ ap (more (folded x)) (all_fold_once xs)

pub folding_twice_is_once : FoldingTwiceIsOnce
folding_twice_is_once = folds_once
