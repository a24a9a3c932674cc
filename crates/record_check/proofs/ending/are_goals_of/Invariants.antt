use Rattle.std.proofs.Common.{◌≡◌, ◌<◌, ℕ}
use Rattle.std.specs.Prelude.{slice_get}
use Rattle.record_check.proofs.ending.are_goals_of.Given as goal

abbrev pub invariant-loop-role : goal.invariant-loop-role
invariant-loop-role g l = (r : ℕ) → r < l.role → (g.G.Game.rules l.game).goal l.state r ≡ slice_get l.goals r
