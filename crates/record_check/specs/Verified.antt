-- The tests of a record, in order.
use Rattle.std.specs.Prelude.{ℕ, List, ◌⊎◌}
use Rattle.serde_json.specs.Data.{Data}
use Rattle.game_core.specs.Play.{Rules}
use Rattle.record_reading.specs.LawfulRecord.{HasNoShape, IsJson}
use Rattle.record_reading.specs.RecordTree.{Holds, HasShape}
use Rattle.record_check.specs.Replaying.{IsFirstFault}
use Rattle.record_reading.specs.declared.record_parts.RecordParts.{RecordParts}
use Rattle.record_reading.specs.declared.verify_fault.VerifyFault.{VerifyFault}

-- The first test that the text fails: the text does not have the shape of a record, or it has the shape and this is the first error of its
-- replay.
abbrev pub FailsFirst : {S M : Type 0} → Rules S M → List ℕ → VerifyFault → Type 0
FailsFirst g text fault = HasNoShape g text fault ⊎ ((tree : Data) × (p : RecordParts) × IsJson text tree × Holds tree p × HasShape g p × IsFirstFault g p fault)
