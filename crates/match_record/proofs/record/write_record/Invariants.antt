use Rattle.std.proofs.Common.{take}
use Rattle.match_record.specs.Internal.Written.{HasMembers}
use Rattle.record_reading.specs.RecordParts.{parts_of}
use Rattle.record_reading.specs.RecordTree.{keys}
use Rattle.match_record.proofs.record.write_record.Given as goal

abbrev pub invariant-loop-key : goal.invariant-loop-key
invariant-loop-key g l = HasMembers l.fn.out l.out (take l.key-index keys) (parts_of (g.G.Game.rules l.game) l.held.value)
