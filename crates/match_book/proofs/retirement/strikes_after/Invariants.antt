use Rattle.std.proofs.Common.{◌≡◌, ◌<◌, ℕ, [], slice_index_or, vec_len}
use Rattle.match_book.specs.MatchValue.{is_error}
use Rattle.match_book.specs.RoleStrikes.{after_turn, unstruck}
use Rattle.match_book.specs.declared.retirement.RoleStrikes.{RoleStrikes}
use Rattle.match_book.proofs.retirement.strikes_after.Given as goal

abbrev pub invariant-loop-role : goal.invariant-loop-role
invariant-loop-role l = record {
  wide : vec_len l.after ≡ l.role;
  each : (r : ℕ) (d : RoleStrikes) → r < l.role → slice_index_or l.after.items r d ≡ after_turn l.limit (slice_index_or l.kept r unstruck) (is_error (slice_index_or l.errors r []));
}
