use Rattle.std.proofs.Common.{take}
use Rattle.record_reading.specs.RecordParts.{AreErrors}
use Rattle.record_reading.proofs.error_texts.are_errors.Given as goal

abbrev pub invariant-loop-turn : goal.invariant-loop-turn
invariant-loop-turn l = AreErrors l.roles (take l.turn-index l.turns)
