-- The heads of messages, by the grammar of `httparse`, and the place and length of the body that they give.
use Rattle.std.specs.Prelude.{◌≡◌, ◌≢◌, ℕ, ◌<◌, ◌≤◌, ◌⊎◌, ◌==◌, nat_le, if◌then◌else◌, List, [], ◌∷◌, ◌++◌, length, take, map, codes, Option, Some, None}
use Rattle.std.specs.Str.{bytes_eq}
use Rattle.httparse.specs.Grammar.{ResponseHead, ReadsResponse, MayBecomeResponse, print_response, status_code, RequestHead, ReadsRequest, MayBecomeRequest, print_request}
use Rattle.httparse.specs.Spans.{name_and_value}
use Rattle.game_core.specs.Bytes.{line_feed}
use Rattle.http_exchange.specs.BodyLength.{Header, BodyLength, unsaid, said, wrong, body_length, length_fault}
use Rattle.http_exchange.specs.declared.head.HttpKind.{HttpKind}
use Rattle.http_exchange.specs.declared.head.HttpKind.TheVariants.{Reply, Request}
use Rattle.http_exchange.specs.declared.head.Head.{Head}
use Rattle.http_exchange.specs.declared.head.Head.TheVariants.{Unfinished, Whole, Bad, Refused}
use Rattle.http_exchange.specs.declared.head.HeadPart.{HeadPart}
use Rattle.http_exchange.specs.declared.head.HeadPart.TheVariants.{Method, FieldCount}
use Rattle.http_exchange.specs.declared.wire_fault.FrameFault.{FrameFault}
use Rattle.http_exchange.specs.declared.wire_fault.FrameFault.TheVariants.{BadHead, BadStatus, NoLength, TooLong}

-- the largest number of bytes of a head
abbrev pub max_head : ℕ
max_head = 16384

-- the largest number of fields of a head
abbrev pub max_fields : ℕ
max_fields = 64

-- the largest number of bytes of a body
abbrev pub max_body : HttpKind → ℕ
max_body Reply = 65536
max_body Request = 2097152

abbrev pub good_status : ℕ
good_status = 200

abbrev pub post : List ℕ
post = codes "POST"

-- The parts of a head: its size in bytes, the error of its first line if that is refused, and its fields.
pub record Parts : Type 0 where
  pub size : ℕ
  pub refusal : Option FrameFault
  pub fields : List Header

abbrev pub reply_parts : ResponseHead → Parts
reply_parts head = record {
  size = length (print_response head);
  refusal = if status_code head == good_status then None else Some (BadStatus (status_code head));
  fields = map name_and_value head.fields;
}

abbrev pub request_parts : RequestHead → Parts
request_parts head = record {
  size = length (print_request head);
  refusal = if bytes_eq head.method post then None else Some BadHead;
  fields = map name_and_value head.fields;
}

-- the bytes are a head with these parts, followed by the rest
abbrev pub Reads : HttpKind → List ℕ → Parts → List ℕ → Type 0
Reads Reply bytes parts rest = (head : ResponseHead) × ReadsResponse bytes head rest × (parts ≡ reply_parts head)
Reads Request bytes parts rest = (head : RequestHead) × ReadsRequest bytes head rest × (parts ≡ request_parts head)

-- the bytes do not begin with a head
abbrev pub HasNoHead : HttpKind → List ℕ → Type 0
HasNoHead kind bytes = (parts : Parts) (rest : List ℕ) → ¬ (Reads kind bytes parts rest)

-- Some further bytes complete a head, or the bytes end inside a request's target. The target is checked only once it is complete.
abbrev pub MayBecomeHead : HttpKind → List ℕ → Type 0
MayBecomeHead Reply bytes = MayBecomeResponse bytes
MayBecomeHead Request bytes = MayBecomeRequest bytes

-- no matter which bytes follow, the bytes do not begin with a head that has few enough fields
abbrev pub IsHopeless : HttpKind → List ℕ → Type 0
IsHopeless kind bytes =
    (more : List ℕ) (parts : Parts) (rest : List ℕ) → Reads kind (bytes ++ more) parts rest
    → max_fields < length parts.fields

-- no matter which bytes follow, the bytes do not begin with a head
abbrev pub NeverHasHead : HttpKind → List ℕ → Type 0
NeverHasHead kind bytes = (more : List ℕ) → HasNoHead kind (bytes ++ more)

-- a prefix of the bytes, followed by an empty line, is a head with too many fields
abbrev pub HasManyFields : HttpKind → List ℕ → Type 0
HasManyFields kind bytes =
    (begun : List ℕ) × (others : List ℕ) × (bytes ≡ begun ++ others)
    × (parts : Parts) × Reads kind (begun ++ (line_feed ∷ [])) parts [] × (max_fields < length parts.fields)

-- This part of a hopeless head is not valid HTTP. It is the number of fields if there are too many. It is another part if no further bytes
-- complete a head.
abbrev pub IsBadIn : HttpKind → List ℕ → HeadPart → Type 0
IsBadIn kind bytes part = (part ≡ FieldCount → HasManyFields kind bytes) × (part ≢ FieldCount → NeverHasHead kind bytes)

-- The result for a head of this size, given the length or the error of its fields. Without a length, a reply's body continues to the end of
-- the stream.
abbrev pub framed_by : HttpKind → ℕ → FrameFault → BodyLength → Head
framed_by kind size fault wrong = Refused fault
framed_by kind size fault (said n) =
    if nat_le n (max_body kind) then Whole (record { start = size; length = Some n }) else Refused TooLong
framed_by Reply size fault unsaid = Whole (record { start = size; length = None })
framed_by Request size fault unsaid = Refused NoLength

-- the head, unless its first line is refused; if a request is refused because of its method, the bad part is `Method`
abbrev pub unless_refused : Option FrameFault → Head → Head
unless_refused None head = head
unless_refused (Some BadHead) head = Bad Method
unless_refused (Some refusal) head = Refused refusal

-- the meaning of a complete head: its first line is checked before its fields
abbrev pub framed : HttpKind → Parts → Head
framed kind parts = unless_refused parts.refusal (framed_by kind parts.size (length_fault parts.fields) (body_length parts.fields))

-- the bytes that can belong to a head
abbrev pub front : List ℕ → List ℕ
front bytes = take max_head bytes

-- The result of parsing a head from the bytes so far. The three cases exclude one another, with one exception: if the bytes may become a
-- head and are hopeless, the last two cases may both apply.
abbrev pub HeadIs : HttpKind → List ℕ → Head → Type 0
HeadIs kind bytes head =
    ((parts : Parts) × (rest : List ℕ) × Reads kind (front bytes) parts rest × (length parts.fields ≤ max_fields)
    × (head ≡ framed kind parts))
    ⊎ ((IsHopeless kind (front bytes) × (part : HeadPart) × IsBadIn kind (front bytes) part × (head ≡ Bad part))
    ⊎ (HasNoHead kind (front bytes) × MayBecomeHead kind (front bytes) × (head ≡ Unfinished)))
