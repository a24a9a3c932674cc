use Rattle.std.proofs.Common.{◌≡◌}
use Rattle.match_book.specs.Roles.{blank}
use Rattle.match_book.proofs.places.blank.Given as goal

abbrev pub invariant-loop-place : goal.invariant-loop-place
invariant-loop-place g l = l.places.items ≡ blank l.place
