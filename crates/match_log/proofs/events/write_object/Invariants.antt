use Rattle.std.proofs.Common.{flat_map, take}
use Rattle.std.specs.Fmt.{HasWritten, IsPlainFormatter}
use Rattle.match_log.specs.LogLines.{written_member}
use Rattle.match_log.proofs.events.write_object.Given as goal

abbrev pub invariant-loop-name : goal.invariant-loop-name
invariant-loop-name g l = IsPlainFormatter l.initial.f
    → HasWritten g.F.Write.write_str_gives l.initial.f (flat_map written_member (take l.name-index l.members)) l.f
