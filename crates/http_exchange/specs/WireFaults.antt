-- The meaning of each error of reading or writing a message.
use Rattle.std.specs.Prelude.{◌≡◌, ◌≢◌, ◌⊎◌, ℕ, ◌<◌, Bool, false, List, [], ⊤}
use Rattle.std.specs.declared.io.ErrorKind.TheVariants.{Interrupted}
use Rattle.game_core.specs.Counting.{Counting, CallsMade, last_count, max_stream_calls}
use Rattle.http_exchange.specs.Looks.{Looks}
use Rattle.http_exchange.specs.declared.head.HttpKind.{HttpKind}
use Rattle.http_exchange.specs.declared.look.Look.TheVariants.{More, Refused}
use Rattle.http_exchange.specs.declared.wire_fault.FrameFault.{FrameFault}
use Rattle.http_exchange.specs.declared.wire_fault.FrameFault.TheVariants as refusals
use Rattle.http_exchange.specs.declared.wire_fault.WireFault.{WireFault}
use Rattle.http_exchange.specs.declared.wire_fault.WireFault.TheVariants.{WriteFault, ReadFault, BadHead, BadStatus, BadLength, TooLong, CutShort, TooManyReads, Memory}

-- the error of a message that is refused
abbrev pub fault_of : FrameFault → WireFault
fault_of refusals.BadHead = BadHead
fault_of (refusals.BadStatus status) = BadStatus
fault_of refusals.TransferEncoding = BadLength
fault_of refusals.NoNumber = BadLength
fault_of refusals.TwoLengths = BadLength
fault_of refusals.NoLength = BadLength
fault_of refusals.TooLong = TooLong
fault_of refusals.CutShort = CutShort

-- the error means that the bytes are refused
abbrev pub IsRefusal : WireFault → Type 0
IsRefusal WriteFault = ⊥
IsRefusal (ReadFault cause) = ⊥
IsRefusal TooManyReads = ⊥
IsRefusal Memory = ⊥
IsRefusal fault = ⊤

-- a failure was counted, unless the count had already reached its maximum
abbrev pub HasFailed : ℕ → ℕ → Type 0
HasFailed old new = new < last_count → old < new

-- there are no bytes yet, or more bytes are needed
abbrev pub WantsMore : HttpKind → List ℕ → Type 0
WantsMore kind given = (given ≡ []) ⊎ Looks kind given false More

-- The meaning of a read error, given the bytes, whether the stream ended, and the stream's counts before and after. Every error except the
-- first three means that the bytes are refused.
abbrev pub ReadStops : {S : Type 0} → HttpKind → WireFault → List ℕ → Bool → Counting S → Counting S → Type 0
ReadStops kind (ReadFault cause) given ended old new =
    (cause ≢ Interrupted) × (ended ≡ false) × WantsMore kind given × HasFailed old.faults new.faults
ReadStops kind TooManyReads given ended old new =
    (ended ≡ false) × WantsMore kind given × CallsMade max_stream_calls old.calls new.calls
ReadStops kind Memory given ended old new = ⊤
ReadStops kind fault given ended old new =
    (refusal : FrameFault) × (fault ≡ fault_of refusal) × Looks kind given ended (Refused refusal)

-- the meaning of a write error, given the stream's counts before and after
abbrev pub WriteStops : {S : Type 0} → WireFault → Counting S → Counting S → Type 0
WriteStops WriteFault old new = HasFailed old.faults new.faults
WriteStops TooManyReads old new = CallsMade max_stream_calls old.calls new.calls
WriteStops fault old new = ⊥
