-- The result for the bytes of a message so far, after each read.
use Rattle.std.specs.Prelude.{◌≡◌, ℕ, ◌+◌, Bool, List, length, Option, Some, None, nat_le, nat_lt, if◌then◌else◌}
use Rattle.http_exchange.specs.HttpHead.{HeadIs, max_head, max_body}
use Rattle.http_exchange.specs.declared.head.HttpKind.{HttpKind}
use Rattle.http_exchange.specs.declared.head.HttpKind.TheVariants.{Reply}
use Rattle.http_exchange.specs.declared.head.Head.{Head}
use Rattle.http_exchange.specs.declared.head.Head.TheVariants.{Unfinished, Whole, Bad, Refused}
use Rattle.http_exchange.specs.declared.look.Look.{Look}
use Rattle.http_exchange.specs.declared.look.Look.TheVariants as looks
use Rattle.http_exchange.specs.declared.wire_fault.FrameFault.TheVariants.{BadHead, TooLong, CutShort}

-- the result for a body that has this length, or continues to the end of the stream, and begins at `start`
abbrev pub look_from : ℕ → Option ℕ → ℕ → Bool → Look
look_from start (Some n) have ended =
    if nat_le (start + n) have then looks.Body start (start + n)
    else (if ended then looks.Refused CutShort else looks.More)
look_from start None have ended =
    if nat_lt (start + max_body Reply) have then looks.Refused TooLong
    else (if ended then looks.Body start have else looks.More)

-- the result for this many bytes with this head; the flag says whether the stream has ended
abbrev pub look_past : Head → ℕ → Bool → Look
look_past Unfinished have ended =
    if nat_le max_head have then looks.Refused TooLong else (if ended then looks.Refused CutShort else looks.More)
look_past (Bad part) have ended = looks.Refused BadHead
look_past (Refused refusal) have ended = looks.Refused refusal
look_past (Whole frame) have ended = look_from frame.start frame.length have ended

abbrev pub Looks : HttpKind → List ℕ → Bool → Look → Type 0
Looks kind bytes ended look = (head : Head) × HeadIs kind bytes head × (look ≡ look_past head (length bytes) ended)
