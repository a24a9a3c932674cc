-- Why a worker stops.
use Rattle.std.specs.Prelude.{Option, Some, None}
use Rattle.call_history.specs.declared.wire.AskFault.{AskFault}
use Rattle.call_history.specs.declared.wire.AskFault.TheVariants.{Full, Memory, Stalled}
use Rattle.desk_calls.specs.declared.call.Reply.{Reply}
use Rattle.desk_calls.specs.declared.call.Reply.TheVariants.{Due, Taken, Refused}
use Rattle.desk_calls.specs.declared.call.Refusal.TheVariants.{Over, Stale, Twice}
use Rattle.role_workers.specs.declared.attend_fault.AttendFault.{AttendFault}
use Rattle.role_workers.specs.declared.attend_fault.AttendFault.TheVariants.{Refused as StopsRefused, Stalled as StopsStalled, Full as StopsFull, Memory as StopsMemory}

-- the error of a worker whose wire has this error
abbrev pub attend_fault : AskFault → AttendFault
attend_fault Full = StopsFull
attend_fault Memory = StopsMemory
attend_fault Stalled = StopsStalled

-- The error that stops a worker after this reply to `Next`. There is none if the reply says what is due. If the reply
-- is a refusal, the error gives its reason. For any other reply the error is `Stalled`.
abbrev pub next_fault : Reply → Option AttendFault
next_fault (Due due) = None
next_fault (Refused reason) = Some (StopsRefused reason)
next_fault _ = Some StopsStalled

-- The error that stops a worker after this reply to its player's answer. There is none if the desk accepts the answer,
-- or refuses it because it is late, repeated, or after the end.
abbrev pub answer_fault : Reply → Option AttendFault
answer_fault Taken = None
answer_fault (Refused (Stale round)) = None
answer_fault (Refused Twice) = None
answer_fault (Refused Over) = None
answer_fault (Refused reason) = Some (StopsRefused reason)
answer_fault _ = Some StopsStalled
