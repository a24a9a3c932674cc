-- Errors that are not refusals.
use Rattle.std.proofs.Common.{◌≡◌, None, refl}
use Rattle.call_history.specs.declared.wire.AskFault.{AskFault}
use Rattle.call_history.specs.declared.wire.AskFault.TheVariants.{Full, Memory, Stalled}
use Rattle.match_workers.specs.RefereeFaults.{reason_of, referee_fault}

pub no_reason : (fault : AskFault) → reason_of (referee_fault fault) ≡ None
no_reason Full = refl
no_reason Memory = refl
no_reason Stalled = refl
