-- Countdown is a lawful game.
use Rattle.std.specs.Prelude.{ℕ, zero, suc, ◌<◌, ◌≤◌, ◌≡◌, ◌≢◌, ◌==◌, ◌^◌, Bool, true, false, nat_le, if◌then◌else◌, List, [], ◌∷◌, ◌++◌, codes, AllPairs, Some, None, refl, slice_index, slice_index_or}
use Rattle.std.proofs.Common.{arith}
use Rattle.std.specs.Fmt.{decimal}
use Rattle.game_core.specs.Canonical.{IsFoldedText}
use Rattle.game_core.specs.GameTexts.{number_is_folded, atom_is_folded, list_is_folded, texts_are_canonical, in_byte_order, texts_differ, members_differ, one_for_each_text}
use Rattle.game_core.specs.declared.countdown.Side.{Side}
use Rattle.game_core.specs.declared.countdown.Side.TheVariants.{Red, Blue}
use Rattle.game_core.specs.declared.countdown.Take.{Take}
use Rattle.game_core.specs.declared.countdown.Take.TheVariants.{Noop, One, Two}
use Rattle.game_core.specs.Play.{IsLawful}
use Rattle.game_core.specs.Countdown.{countdown, take_text, role_of, side_of, side_name, turn_text, position_texts}

-- the move with this text; it compares only the bytes where the texts of moves differ
abbrev taker : List ℕ → Take
taker text = if slice_index text 0 == 110 then Noop else (if slice_index_or text 6 0 == 49 then One else Two)

told_by_text : (m : Take) → taker (take_text m) ≡ m
told_by_text Noop = refl
told_by_text One = refl
told_by_text Two = refl

no_question : (m : Take) → take_text m ≢ codes "?"
no_question Noop = texts_differ (take_text Noop) (codes "?") refl
no_question One = texts_differ (take_text One) (codes "?") refl
no_question Two = texts_differ (take_text Two) (codes "?") refl

legal_differ : (over two mine : Bool) → AllPairs (λ (m n : Take). m ≢ n) (if over then [] else (if mine then (if two then (One ∷ (Two ∷ [])) else (One ∷ [])) else (Noop ∷ [])))
legal_differ true two mine = members_differ take_text [] refl
legal_differ false true true = members_differ take_text (One ∷ (Two ∷ [])) refl
legal_differ false false true = members_differ take_text (One ∷ []) refl
legal_differ false two false = members_differ take_text (Noop ∷ []) refl

goals : (over mine : Bool) (v : ℕ) → (if over then (if mine then Some 0 else Some 100) else None) ≡ Some v → v ≤ 100
goals true true v e = let w : ◌≡◌ {A = ℕ} 0 v = cc in omega arith
goals true false v e = let w : ◌≡◌ {A = ℕ} 100 v = cc in omega arith
goals false mine v e = absurd cc

name_is_folded : (s : Side) → IsFoldedText (side_name s)
name_is_folded Red = atom_is_folded (side_name Red) refl
name_is_folded Blue = atom_is_folded (side_name Blue) refl

take_is_folded : (m : Take) → IsFoldedText (take_text m)
take_is_folded Noop = atom_is_folded (take_text Noop) refl
take_is_folded One = list_is_folded (codes "take") (codes "1" ∷ []) refl
take_is_folded Two = list_is_folded (codes "take") (codes "2" ∷ []) refl

heap_is_folded : (n : ℕ) → n < 2 ^ 64 → IsFoldedText (codes "(heap " ++ decimal n ++ codes ")")
heap_is_folded n small = list_is_folded (codes "heap") (decimal n ∷ []) (rw (number_is_folded n small) refl)

turn_is_folded : (s : Side) → IsFoldedText (turn_text s)
turn_is_folded Red = list_is_folded (codes "turn") (side_name Red ∷ []) refl
turn_is_folded Blue = list_is_folded (codes "turn") (side_name Blue ∷ []) refl

role_names_differ : (q r : ℕ) → q < 2 → r < 2 → side_name (side_of q) ≡ side_name (side_of r) → q ≡ r
role_names_differ q r low high = one_for_each_text (λ k. side_name (side_of k)) (λ text. if slice_index text 0 == 114 then 0 else 1) q r (of_role q low) (of_role r high)
  where
    of_role : (k : ℕ) → k < 2 → (if slice_index (side_name (side_of k)) 0 == 114 then 0 else 1) ≡ k
    of_role zero _ = refl
    of_role (suc k) within = omega arith

pub countdown_laws : (n : ℕ) → n ≤ 100 → IsLawful (countdown n)
countdown_laws n few = record {
  some_role = omega arith;
  few_roles = omega arith;
  role_names_folded = λ r within. name_is_folded (side_of r);
  role_names_differ = role_names_differ;
  initial_is_state = omega arith;
  next_is_state = λ p joint is lawful. omega arith;
  legal_are_moves = λ p r is within k d at. tt;
  legal_differ = λ p r is within. legal_differ (p.heap == 0) (nat_le 2 p.heap) (role_of p.on_turn == r);
  move_texts_folded = λ m is. take_is_folded m;
  one_move_for_each_text = λ m k is also. one_for_each_text take_text taker m k (told_by_text m) (told_by_text k);
  no_question = λ m is. no_question m;
  state_texts_canonical = λ p is. texts_are_canonical (position_texts p) (heap_is_folded p.heap (omega arith), (turn_is_folded p.on_turn, tt));
  state_texts_ordered = λ p is. in_byte_order (position_texts p) refl;
  goal_in_range = λ p r v is within. goals (p.heap == 0) (role_of p.on_turn == r) v;
}
