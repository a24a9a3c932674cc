-- Expressions by their members, and expressions that are not messages.
use Rattle.std.proofs.Common.{◌≡◌, ◌≢◌, ◌<◌, ◌≤◌, Some, None, Err, List, [], ◌∷◌, length, refl, arith}
use Rattle.game_core.specs.Expression.{Expression, atom, list, all_folded}
use Rattle.kif_text.specs.View.{views}
use Rattle.kif_text.specs.declared.expr.Expr.{Expr}
use Rattle.match_messages.specs.InfoReading.{status_pair}
use Rattle.match_messages.specs.MessageReading.{members_in, moves_in, info_in, start_in, id_and_moves, abort_in}
use Rattle.match_messages.specs.declared.messages.MessageFault.TheVariants.{BadMessage}

pub moves_listed : (x : Expression) (xs : List Expr) → members_in x ≡ Some (views xs) → 0 < length xs → moves_in x ≡ Some (Some (all_folded (views xs)))
moves_listed (atom w) xs is some = absurd cc
moves_listed (list ys) [] is some = absurd (omega arith)
moves_listed (list ys) (x ∷ xs) is some = let e : ys ≡ views (x ∷ xs) = cc in rw e refl

pub status_few : (xs : List Expr) → length xs < 2 → status_pair (views xs) ≡ None
status_few [] few = refl
status_few (x ∷ []) few = refl
status_few (x ∷ (y ∷ xs)) few = absurd (omega arith)

pub status_many : (xs : List Expr) → 3 ≤ length xs → status_pair (views xs) ≡ None
status_many [] many = absurd (omega arith)
status_many (x ∷ []) many = absurd (omega arith)
status_many (x ∷ (y ∷ [])) many = absurd (omega arith)
status_many (x ∷ (y ∷ (z ∷ xs))) many = refl

pub info_many : (xs : List Expr) → 1 ≤ length xs → info_in (views xs) ≡ Err BadMessage
info_many [] many = absurd (omega arith)
info_many (x ∷ xs) many = refl

pub abort_other : (xs : List Expr) → length xs ≢ 1 → abort_in (views xs) ≡ Err BadMessage
abort_other [] other = refl
abort_other (x ∷ []) other = absurd (other refl)
abort_other (x ∷ (y ∷ xs)) other = refl

pub id_and_moves-other : (xs : List Expr) → length xs ≢ 2 → id_and_moves (views xs) ≡ None
id_and_moves-other [] other = refl
id_and_moves-other (x ∷ []) other = refl
id_and_moves-other (x ∷ (y ∷ [])) other = absurd (other refl)
id_and_moves-other (x ∷ (y ∷ (z ∷ xs))) other = refl

pub start_other : (xs : List Expr) → length xs ≢ 5 → start_in (views xs) ≡ Err BadMessage
start_other [] other = refl
start_other (a ∷ []) other = refl
start_other (a ∷ (b ∷ [])) other = refl
start_other (a ∷ (b ∷ (d ∷ []))) other = refl
start_other (a ∷ (b ∷ (d ∷ (e ∷ [])))) other = refl
start_other (a ∷ (b ∷ (d ∷ (e ∷ (f ∷ []))))) other = absurd (other refl)
start_other (a ∷ (b ∷ (d ∷ (e ∷ (f ∷ (g ∷ xs)))))) other = refl
