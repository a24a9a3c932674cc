use Rattle.std.proofs.Common.{◌≡◌, ◌<◌, ℕ, None}
use Rattle.match_book.specs.Roles.{at_role}
use Rattle.record_check.proofs.ending.is_blank.Given as goal

abbrev pub invariant-loop-mark : goal.invariant-loop-mark
invariant-loop-mark l = (k : ℕ) → k < l.mark-index → at_role l.marks k ≡ None
