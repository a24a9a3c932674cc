use Rattle.std.proofs.Common.{◌≡◌, take, map}
use Rattle.kif_text.specs.View.{view}
use Rattle.kif_text.proofs.expr.+copy.Given as goal

abbrev pub invariant-copy_all-loop-member : goal.invariant-copy_all-loop-member
invariant-copy_all-loop-member l = map view l.copies.items ≡ map view (take l.member-index l.member-items)
