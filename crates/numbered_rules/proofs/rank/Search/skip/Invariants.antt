use Rattle.std.proofs.Common.{ℕ, ◌<◌, ◌≤◌, slice_index}
use Rattle.numbered_rules.specs.Internal.Search.{IsPlaced}
use Rattle.numbered_rules.proofs.rank.Search.skip.Given as goal

abbrev pub invariant-loop-place : goal.invariant-loop-place
invariant-loop-place l = (i : ℕ) → l.fn.from ≤ i → i < l.place → IsPlaced l.self.marks.items (slice_index l.wants i)
