-- The bytes that a call writes to a stream and reads from it.
use Rattle.std.specs.Prelude.{◌≡◌, ◌⊎◌, ℕ, ◌<◌, ◌≤◌, Bool, true, List, length, take, Option}
use Rattle.std.specs.Io.KnownBytes.{Consumes, Appends, IsAtEnd}
use Rattle.game_core.specs.Counting.{Counting}
use Rattle.http_exchange.specs.Carried.{Carried}
use Rattle.http_exchange.specs.HttpHead.{HeadIs}
use Rattle.http_exchange.specs.Looks.{look_past}
use Rattle.http_exchange.specs.Receipts.{receipt}
use Rattle.http_exchange.specs.WireFaults.{ReadStops, WriteStops, fault_of}
use Rattle.http_exchange.specs.declared.head.HttpKind.{HttpKind}
use Rattle.http_exchange.specs.declared.head.HttpKind.TheVariants.{Reply}
use Rattle.http_exchange.specs.declared.head.Head.{Head}
use Rattle.http_exchange.specs.declared.look.Look.TheVariants.{Refused}
use Rattle.http_exchange.specs.declared.received.Received.{Received}
use Rattle.http_exchange.specs.declared.wire_fault.FrameFault.{FrameFault}
use Rattle.http_exchange.specs.declared.wire_fault.WireFault.{WireFault}
use Rattle.http_exchange.specs.declared.wire_fault.WireFault.TheVariants.{Memory}

-- The stream gave these bytes between two moments. `old` and `new` are the bytes that were left to read at those moments. A stream that has
-- ended has no bytes left.
pub record Gives (old new : Option (List ℕ)) (given : List ℕ) (ended : Bool) : Type 0 where
  pub consumed : Consumes old new given
  pub at_end : ended ≡ true → IsAtEnd new

-- exactly this text was written
abbrev pub WritesText : {S : Type 0} → (S → Option (List ℕ)) → Counting S → Counting S → List ℕ → Type 0
WritesText contents old new text = (old.faults ≤ new.faults) × Appends (contents old.stream) (contents new.stream) text

-- before the error, only a part of this text was written
abbrev pub BreaksOff : {S : Type 0} → (S → Option (List ℕ)) → Counting S → Counting S → List ℕ → WireFault → Type 0
BreaksOff contents old new text fault =
    (taken : ℕ) × (taken < length text) × Appends (contents old.stream) (contents new.stream) (take taken text)
    × WriteStops fault old new

-- the bytes from the stream carry the body
abbrev pub TakesBody : {S : Type 0} → HttpKind → (S → Option (List ℕ)) → Counting S → Counting S → List ℕ → Type 0
TakesBody kind remaining old new body =
    (given : List ℕ) × (ended : Bool) × Gives (remaining old.stream) (remaining new.stream) given ended
    × Carried kind given ended body

-- the bytes from the stream explain this error
abbrev pub TakesNone : {S : Type 0} → HttpKind → (S → Option (List ℕ)) → Counting S → Counting S → WireFault → Type 0
TakesNone kind remaining old new fault =
    (given : List ℕ) × (ended : Bool) × Gives (remaining old.stream) (remaining new.stream) given ended
    × ReadStops kind fault given ended old new

-- The bytes from the stream are refused with this error. `received` follows from the head in these bytes, so a status in
-- `received` is exactly the status of the head.
abbrev pub TellsRefusal : {S : Type 0} → HttpKind → (S → Option (List ℕ)) → Counting S → Counting S → WireFault → Received → Type 0
TellsRefusal kind remaining old new fault received =
    (given : List ℕ) × (ended : Bool) × Gives (remaining old.stream) (remaining new.stream) given ended
    × (head : Head) × HeadIs kind given head × (received ≡ receipt head (length given))
    × (refusal : FrameFault) × (Refused refusal ≡ look_past head (length given) ended) × (fault ≡ fault_of refusal)

-- the request was written, and the bytes of the reply carry this body
abbrev pub BringsReply : {S : Type 0} → (S → Option (List ℕ)) → (S → Option (List ℕ)) → Counting S → Counting S → List ℕ → List ℕ → Type 0
BringsReply {S} contents remaining old new request reply =
    (sent : Counting S) × WritesText contents old sent request × TakesBody Reply remaining sent new reply

-- the request was written, and the bytes of the reply are refused with this error
abbrev pub BringsRefusal : {S : Type 0} → (S → Option (List ℕ)) → (S → Option (List ℕ)) → Counting S → Counting S → List ℕ → WireFault → Received → Type 0
BringsRefusal {S} contents remaining old new request fault received =
    (sent : Counting S) × WritesText contents old sent request × TellsRefusal Reply remaining sent new fault received

-- The exchange failed. Either memory ran out and nothing was done, or the request was not written completely, or the whole request was
-- written and the bytes of the reply explain the error.
abbrev pub BringsNone : {S : Type 0} → (S → Option (List ℕ)) → (S → Option (List ℕ)) → Counting S → Counting S → List ℕ → WireFault → Type 0
BringsNone {S} contents remaining old new request fault =
    ((fault ≡ Memory) × (new ≡ old))
    ⊎ (BreaksOff contents old new request fault
    ⊎ ((sent : Counting S) × WritesText contents old sent request × TakesNone Reply remaining sent new fault))
