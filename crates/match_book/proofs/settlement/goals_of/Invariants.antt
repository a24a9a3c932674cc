use Rattle.std.proofs.Common.{◌≡◌, ◌<◌, None, ℕ, vec_len}
use Rattle.match_book.specs.Phase.{has_no_goal}
use Rattle.match_book.specs.Roles.{lowest_role, at_role}
use Rattle.match_book.proofs.settlement.goals_of.Given as goal

abbrev pub invariant-loop-role : goal.invariant-loop-role
invariant-loop-role g l = record {
  none_yet : lowest_role l.role (has_no_goal (g.G.Game.rules l.game) l.state) ≡ None;
  wide : vec_len l.goals ≡ l.role;
  goals : (r : ℕ) → r < l.role → at_role l.goals.items r ≡ (g.G.Game.rules l.game).goal l.state r;
}
