use Rattle.std.proofs.Common.{◌≡◌, ◌<◌, ℕ, true}
use Rattle.match_book.specs.Roles.{is_there}
use Rattle.match_book.proofs.places.are_all_there.Given as goal

abbrev pub invariant-loop-place : goal.invariant-loop-place
invariant-loop-place g l = (k : ℕ) → k < l.place-index → is_there l.places k ≡ true
