use Rattle.std.proofs.Common.{◌≡◌, ◌<◌, ℕ, None, length}
use Rattle.match_book.specs.Roles.{at_role}
use Rattle.match_book.proofs.places.clear.Given as goal

abbrev pub invariant-loop-place : goal.invariant-loop-place
invariant-loop-place g l = record {
  wide : length l.places.items ≡ length l.initial.places.items;
  empty : (k : ℕ) → k < l.place → at_role l.places.items k ≡ None;
}
