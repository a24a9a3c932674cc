use Rattle.std.proofs.Common.{flat_map, take}
use Rattle.std.specs.Fmt.{HasWritten, IsPlainFormatter}
use Rattle.match_log.specs.LogLines.{escaped}
use Rattle.match_log.proofs.events.write_bytes.Given as goal

abbrev pub invariant-loop-byte : goal.invariant-loop-byte
invariant-loop-byte g l =
    IsPlainFormatter l.initial.f → HasWritten g.F.Write.write_str_gives l.initial.f (flat_map escaped (take l.byte-index l.text)) l.f
