-- The bytes of a request to a player and of a player's reply.
use Rattle.std.specs.Prelude.{ℕ, List, [], ◌∷◌, ◌++◌, length, codes}
use Rattle.std.specs.Fmt.{decimal}
use Rattle.game_core.specs.Bytes.{carriage_return, line_feed}

abbrev pub line_end : List ℕ
line_end = carriage_return ∷ (line_feed ∷ [])

-- a line of a head
unfoldable pub line : List ℕ → List ℕ
line text = text ++ line_end

-- a field of a head: its name and its value
unfoldable pub field : List ℕ → List ℕ → List ℕ
field name value = line (name ++ codes ": " ++ value)

-- the fields that describe a body, the empty line, and the body
unfoldable pub described_body : List ℕ → List ℕ
described_body body =
    field (codes "Content-Type") (codes "text/acl")
    ++ field (codes "Content-Length") (decimal (length body))
    ++ line []
    ++ body

-- the request with this body to the player with this name
abbrev pub request_text : List ℕ → List ℕ → List ℕ
request_text player body =
    line (codes "POST / HTTP/1.0")
    ++ field (codes "Accept") (codes "text/delim")
    ++ field (codes "Sender") (codes "GAMESERVER")
    ++ field (codes "Receiver") player
    ++ described_body body

-- the reply with this body
abbrev pub reply_text : List ℕ → List ℕ
reply_text body = line (codes "HTTP/1.0 200 OK") ++ described_body body
