use Rattle.std.proofs.Common.{◌≡◌, ◌++◌, drop}
use Rattle.game_core.specs.Canonical.{members}
use Rattle.kif_text.specs.View.{views}
use Rattle.kif_text.proofs.Writing.{from_member}
use Rattle.kif_text.proofs.printing.+write.Given as goal

abbrev pub invariant-write_members-loop-i : goal.invariant-write_members-loop-i
invariant-write_members-loop-i l = l.out.items ++ from_member l.i (views (drop l.i l.member-items)) ≡ l.initial.out.items ++ members (views l.member-items)
