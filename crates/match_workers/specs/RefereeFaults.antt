-- Why a match is not refereed.
use Rattle.std.specs.Prelude.{Option, Some, None}
use Rattle.call_history.specs.declared.wire.AskFault.{AskFault}
use Rattle.call_history.specs.declared.wire.AskFault.TheVariants.{Full, Memory, Stalled}
use Rattle.desk_calls.specs.declared.call.Refusal.{Refusal}
use Rattle.match_workers.specs.declared.refereeing.RefereeFault.{RefereeFault}
use Rattle.match_workers.specs.declared.refereeing.RefereeFault.TheVariants.{Refused, Full as IsFull, Memory as IsMemory, Unclosed as IsUnclosed}

-- the error if the call that opens the match got no reply, for this reason
abbrev pub referee_fault : AskFault → RefereeFault
referee_fault Full = IsFull
referee_fault Memory = IsMemory
referee_fault Stalled = IsUnclosed

-- the reason why the desk refused the match; None for any other error
abbrev pub reason_of : RefereeFault → Option Refusal
reason_of (Refused reason) = Some reason
reason_of IsUnclosed = None
reason_of IsFull = None
reason_of IsMemory = None
