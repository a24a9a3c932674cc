use Rattle.std.proofs.Common.{◌≡◌, ◌<◌, ℕ, List, None, slice_index_or, vec_len}
use Rattle.match_book.specs.Roles.{lowest_role}
use Rattle.match_book.specs.Phase.{has_no_move}
use Rattle.match_book.proofs.role_moves.legal_moves.Given as goal

abbrev pub invariant-loop-role : goal.invariant-loop-role
invariant-loop-role g l = record {
  none_yet : lowest_role l.role (has_no_move (g.G.Game.rules l.game) l.state) ≡ None;
  wide : vec_len l.moves ≡ l.role;
  legal : (r : ℕ) (d : List _) → r < l.role → slice_index_or l.moves.items r d ≡ (g.G.Game.rules l.game).legal l.state r;
}
