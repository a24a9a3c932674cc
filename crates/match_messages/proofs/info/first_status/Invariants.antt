use Rattle.std.proofs.Common.{◌≡◌, drop}
use Rattle.kif_text.specs.View.{views}
use Rattle.match_messages.specs.InfoReading.{first_status}
use Rattle.match_messages.proofs.info.first_status.Given as goal

abbrev pub invariant-loop-member : goal.invariant-loop-member
invariant-loop-member l = first_status (views (drop l.member-index l.members)) ≡ first_status (views l.members)
