-- Both halves of the check together: the first test that fails.
use Rattle.std.proofs.Common.{List, inl, inr, Result}
use Rattle.std.specs.Prelude.{ℕ, IfErr, IsErrAnd, ◌≡◌}
use Rattle.std.proofs.lemmas.Result.{err_from_is_err_and}
use Rattle.serde_json.specs.Data.{Data}
use Rattle.game_core.specs.Play.{Rules}
use Rattle.record_reading.specs.LawfulRecord.{IsJson, HasNoShape}
use Rattle.record_reading.specs.RecordTree.{Holds, HasShape}
use Rattle.record_reading.specs.declared.record_parts.RecordParts.{RecordParts}
use Rattle.record_reading.specs.declared.verify_fault.VerifyFault.{VerifyFault}
use Rattle.record_check.specs.Replaying.{IsFirstFault}
use Rattle.record_check.specs.Verified.{FailsFirst}

-- the values of a text of the right shape
abbrev pub Says : {S M : Type 0} → Rules S M → List ℕ → RecordParts → Type 0
Says g text p = (tree : Data) × IsJson text tree × Holds tree p × HasShape g p
