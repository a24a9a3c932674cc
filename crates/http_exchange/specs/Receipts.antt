-- How much of a reply came, if it had no usable body.
use Rattle.std.specs.Prelude.{ℕ, ◌-◌, ◌==◌, if◌then◌else◌, min, Option, Some, None}
use Rattle.http_exchange.specs.declared.head.Head.{Head}
use Rattle.http_exchange.specs.declared.head.Head.TheVariants as heads
use Rattle.http_exchange.specs.declared.received.Received.{Received}
use Rattle.http_exchange.specs.declared.received.Received.TheVariants as receipts
use Rattle.http_exchange.specs.declared.wire_fault.FrameFault.TheVariants.{BadStatus, TransferEncoding, NoNumber, TwoLengths, TooLong}

-- bytes without a complete head
abbrev pub head_receipt : ℕ → Received
head_receipt have = if have == 0 then receipts.Nothing else receipts.Head have

-- bytes of a body, and its length, if the head has one
abbrev pub body_receipt : Option ℕ → ℕ → Received
body_receipt (Some n) come = receipts.Body (min n come) n
body_receipt None come = receipts.OpenBody come

-- how much of a reply came, given the result for its head and the number of its bytes
abbrev pub receipt : Head → ℕ → Received
receipt heads.Unfinished have = head_receipt have
receipt (heads.Whole frame) have = body_receipt frame.length (have - frame.start)
receipt (heads.Bad part) have = receipts.BadHead part have
receipt (heads.Refused (BadStatus status)) have = receipts.Status status have
receipt (heads.Refused TransferEncoding) have = receipts.TransferEncoding
receipt (heads.Refused NoNumber) have = receipts.NoNumber
receipt (heads.Refused TwoLengths) have = receipts.TwoLengths
receipt (heads.Refused TooLong) have = receipts.LongLength
receipt (heads.Refused refusal) have = receipts.Refused have
