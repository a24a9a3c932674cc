use Rattle.std.proofs.Common.{◌≡◌}
use Rattle.match_book.specs.RoleStrikes.{count_roles, is_retired_in}
use Rattle.match_book.proofs.retirement.count_retired.Given as goal

abbrev pub invariant-loop-role : goal.invariant-loop-role
invariant-loop-role l = l.count ≡ count_roles l.role (is_retired_in l.kept)
