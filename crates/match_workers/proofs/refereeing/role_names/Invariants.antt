use Rattle.std.proofs.Common.{◌≡◌, ◌<◌, ℕ, [], length, slice_index_or}
use Rattle.match_workers.proofs.refereeing.role_names.Given as goal

abbrev pub invariant-loop-role : goal.invariant-loop-role
invariant-loop-role g l = record {
  count : length l.items.items ≡ l.role;
  each : (k : ℕ) → k < l.role → slice_index_or l.items.items k [] ≡ (g.G.Game.rules l.game).role_name k;
}
