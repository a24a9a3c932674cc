-- Facts about a message while it is being read.
use Rattle.std.specs.Prelude.{◌≡◌, ℕ, ◌≤◌, ◌⊎◌, Bool, List, Option, Some, None, ⊤}
use Rattle.std.specs.Str.Parse.{digits_value}
use Rattle.game_core.specs.Numerals.{are_digits}
use Rattle.httparse.specs.declared.Error.{Error}
use Rattle.httparse.specs.declared.Error.TheVariants as errors
use Rattle.http_exchange.specs.BodyLength.{BodyLength, unsaid, said, writes_number}
use Rattle.http_exchange.specs.HttpHead.{HeadIs}
use Rattle.http_exchange.specs.declared.head.HttpKind.{HttpKind}
use Rattle.http_exchange.specs.declared.head.Head.{Head}
use Rattle.http_exchange.specs.declared.head.Head.TheVariants.{Unfinished, Whole, Bad, Refused}
use Rattle.http_exchange.specs.declared.head.HeadPart.{HeadPart}
use Rattle.http_exchange.specs.declared.head.HeadPart.TheVariants as parts
use Rattle.http_exchange.specs.declared.look.Look.{Look}
use Rattle.http_exchange.specs.declared.look.Look.TheVariants as looks

-- the length that the digits write, or none if there are no digits
abbrev pub length_of : Option (List ℕ) → BodyLength
length_of None = unsaid
length_of (Some digits) = said (digits_value 10 digits)

-- the value consists of digits and, if there is an earlier value, writes the same number
abbrev pub agrees : Option (List ℕ) → List ℕ → Bool
agrees None value = are_digits value
agrees (Some before) value = writes_number (digits_value 10 before) value

-- nothing is known about the head yet, or this is the result of parsing it
abbrev pub IsKnown : HttpKind → List ℕ → Head → Type 0
IsKnown kind bytes head = (head ≡ Unfinished) ⊎ HeadIs kind bytes head

-- the part of a head that the parser refuses with this error
abbrev pub part_of : Error → HeadPart
part_of errors.Version = parts.Version
part_of errors.Status = parts.Status
part_of errors.Token = parts.Method
part_of errors.HeaderName = parts.FieldName
part_of errors.HeaderValue = parts.FieldValue
part_of errors.NewLine = parts.LineEnd
part_of errors.TooManyHeaders = parts.FieldCount

-- a body after the head begins within this many bytes
abbrev pub StartsWithin : ℕ → Head → Type 0
StartsWithin have Unfinished = ⊤
StartsWithin have (Bad part) = ⊤
StartsWithin have (Refused refusal) = ⊤
StartsWithin have (Whole frame) = frame.start ≤ have

-- a body that is found is within this many bytes
abbrev pub BodyWithin : ℕ → Look → Type 0
BodyWithin have looks.More = ⊤
BodyWithin have (looks.Body start end) = (start ≤ end) × (end ≤ have)
BodyWithin have (looks.Refused refusal) = ⊤
