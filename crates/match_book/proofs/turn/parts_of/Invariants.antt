use Rattle.std.proofs.Common.{◌≡◌}
use Rattle.match_book.specs.Roles.{of_each_role}
use Rattle.match_book.specs.Internal.OpenAnswers.{kept_part}
use Rattle.match_book.proofs.turn.parts_of.Given as goal

abbrev pub invariant-loop-role : goal.invariant-loop-role
invariant-loop-role g l = l.parts.items ≡ of_each_role l.role (kept_part l.answers l.strikes l.legal)
