-- Laws about the results for the bytes read so far, and about the bodies that bytes carry.
use Rattle.std.specs.Prelude.{◌≡◌, ◌≢◌, ◌≤◌, ◌⊎◌, ℕ, Bool, false, List, ◌++◌, length, slice_range}
use Rattle.std.specs.List.{AllPass}
use Rattle.httparse.specs.Grammar.{is_value_byte}
use Rattle.game_core.specs.Counting.{Counting}
use Rattle.http_exchange.specs.Carried.{Carried}
use Rattle.http_exchange.specs.HttpHead.{MayBecomeHead, IsHopeless, front, max_body}
use Rattle.http_exchange.specs.HttpText.{reply_text, request_text}
use Rattle.http_exchange.specs.Looks.{Looks}
use Rattle.http_exchange.specs.WireFaults.{ReadStops}
use Rattle.http_exchange.specs.declared.head.HttpKind.{HttpKind}
use Rattle.http_exchange.specs.declared.head.HttpKind.TheVariants.{Reply, Request}
use Rattle.http_exchange.specs.declared.look.Look.{Look}
use Rattle.http_exchange.specs.declared.look.Look.TheVariants.{More, Body, Refused}
use Rattle.http_exchange.specs.declared.wire_fault.WireFault.{WireFault}
use Rattle.http_exchange.specs.declared.wire_fault.WireFault.TheVariants.{Memory}

-- The bytes begin a head, or end inside a request's target. But no further bytes complete a head with few enough fields, because there are
-- too many fields already or the target is not text.
pub record IsUndecided (kind : HttpKind) (bytes : List ℕ) : Type 0 where
  pub unfinished : MayBecomeHead kind (front bytes)
  pub hopeless : IsHopeless kind (front bytes)

-- A result other than `More` stays the same when more bytes come, unless the bytes are undecided. So the order and the sizes of the
-- reads do not matter.
abbrev pub LooksStay : Type 0
LooksStay =
    (kind : HttpKind) (bytes more : List ℕ) (ended : Bool) (look later : Look)
    → Looks kind bytes false look → look ≢ More → Looks kind (bytes ++ more) ended later
    → (later ≡ look) ⊎ IsUndecided kind (bytes ++ more)

abbrev pub FoundIsCarried : Type 0
FoundIsCarried =
    (kind : HttpKind) (given : List ℕ) (ended : Bool) (start end : ℕ)
    → Looks kind given ended (Body start end) → Carried kind given ended (slice_range given start end)

-- the result says where this body is
abbrev pub IsFound : Look → List ℕ → List ℕ → Type 0
IsFound More given body = ⊥
IsFound (Body start end) given body = body ≡ slice_range given start end
IsFound (Refused refusal) given body = ⊥

abbrev pub CarriedIsFound : Type 0
CarriedIsFound =
    (kind : HttpKind) (given : List ℕ) (ended : Bool) (body : List ℕ) (look : Look)
    → Carried kind given ended body → Looks kind given ended look → IsFound look given body

abbrev pub CarriesOneAtMost : Type 0
CarriesOneAtMost =
    (kind : HttpKind) (given : List ℕ) (ended : Bool) (one other : List ℕ)
    → Carried kind given ended one → Carried kind given ended other → one ≡ other

abbrev pub CarriedHasNoFault : Type 0 → Type 0
CarriedHasNoFault S =
    (kind : HttpKind) (given : List ℕ) (ended : Bool) (body : List ℕ) (fault : WireFault) (old new : Counting S)
    → Carried kind given ended body → ReadStops kind fault given ended old new → fault ≡ Memory

-- A reply carries its body if the body is within the limit, no matter which bytes follow the reply.
abbrev pub ReplyIsCarried : Type 0
ReplyIsCarried =
    (body more : List ℕ) (ended : Bool) → length body ≤ max_body Reply → Carried Reply (reply_text body ++ more) ended body

-- a player's name within this limit leaves enough bytes for the rest of a head
abbrev pub long_name : ℕ
long_name = 16000

-- A request carries its body, no matter which bytes follow the request, if the body and the player's name are within their limits and the
-- name has no control byte except tabs.
abbrev pub RequestIsCarried : Type 0
RequestIsCarried =
    (player body more : List ℕ) (ended : Bool) → AllPass is_value_byte player → length player ≤ long_name → length body ≤ max_body Request
    → Carried Request (request_text player body ++ more) ended body
