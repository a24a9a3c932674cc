use Rattle.std.proofs.Common.{map, take}
use Rattle.std.specs.Fmt.{HasWritten, IsPlainFormatter}
use Rattle.match_log.specs.ShownTexts.{shown_byte}
use Rattle.match_log.proofs.shown_text.write_part.Given as goal

abbrev pub invariant-loop-byte : goal.invariant-loop-byte
invariant-loop-byte g l =
    IsPlainFormatter l.initial.f → HasWritten g.F.Write.write_str_gives l.initial.f (map shown_byte (take l.byte-index l.byte-items)) l.f
