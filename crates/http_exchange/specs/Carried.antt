-- When the bytes from a stream carry a body.
use Rattle.std.specs.Prelude.{◌≡◌, ℕ, ◌≤◌, Bool, true, List, length, take, None}
use Rattle.http_exchange.specs.BodyLength.{BodyLength, unsaid, said, wrong, body_length}
use Rattle.http_exchange.specs.HttpHead.{Parts, Reads, max_head, max_fields, max_body}
use Rattle.http_exchange.specs.declared.head.HttpKind.{HttpKind}
use Rattle.http_exchange.specs.declared.head.HttpKind.TheVariants.{Reply, Request}

-- The bytes after the head carry this body. If the fields have a length, the body is that many bytes. If the fields have no length, a
-- reply's body is everything up to the end of the stream, and a request carries no body.
abbrev pub Follows : HttpKind → BodyLength → List ℕ → Bool → List ℕ → Type 0
Follows kind wrong rest ended body = ⊥
Follows kind (said n) rest ended body = (n ≤ max_body kind) × (n ≤ length rest) × (body ≡ take n rest)
Follows Reply unsaid rest ended body = (ended ≡ true) × (length rest ≤ max_body Reply) × (body ≡ rest)
Follows Request unsaid rest ended body = ⊥

-- The bytes are a head within the limits with an accepted first line (status 200, or the method POST), and then the body.
pub record Carried (kind : HttpKind) (given : List ℕ) (ended : Bool) (body : List ℕ) : Type 0 where
  pub head : Parts
  pub rest : List ℕ
  pub reads : Reads kind given head rest
  pub small : head.size ≤ max_head
  pub few : length head.fields ≤ max_fields
  pub taken : head.refusal ≡ None
  pub follows : Follows kind (body_length head.fields) rest ended body
