use Rattle.std.proofs.Common.{◌≡◌, ◌++◌, drop}
use Rattle.game_core.specs.Canonical.{later}
use Rattle.match_messages.specs.MessageText.{as_printed}
use Rattle.match_messages.proofs.writing.list_text.Given as goal

abbrev pub invariant-loop-member : goal.invariant-loop-member
invariant-loop-member l = l.bytes.items ++ later (as_printed (drop l.member-index l.others)) ≡ l.initial.bytes.items ++ later (as_printed l.others)
