-- The legal moves of each role.
use Rattle.std.specs.Prelude.{◌≡◌, ℕ, ◌<◌, List, length, slice_index_or}
use Rattle.game_core.specs.Play.{Rules}

-- there is one list for each role: the role's legal moves in the state
pub record AreLegalMoves {S M : Type 0} (g : Rules S M) (s : S) (lists : List (List M)) : Type 0 where
  pub one_list : length lists ≡ g.roles
  pub legal : (r : ℕ) (d : List M) → r < g.roles → slice_index_or lists r d ≡ g.legal s r
