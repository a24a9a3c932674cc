use Rattle.std.proofs.Common.{take}
use Rattle.std.specs.Prelude.{All}
use Rattle.record_reading.specs.RecordParts.{IsErrorText}
use Rattle.record_reading.proofs.error_texts.are_error_texts.Given as goal

abbrev pub invariant-loop-text : goal.invariant-loop-text
invariant-loop-text l = All IsErrorText (take l.text-index l.texts)
