-- The text lines of the log. Each text line is a JSON object.
use Rattle.std.specs.Prelude.{ℕ, ◌+◌, ◌/◌, ◌%◌, ◌==◌, ◌||◌, nat_lt, List, [], ◌∷◌, ◌++◌, codes, flat_map, if◌then◌else◌, Option, Some, None, option_map}
use Rattle.std.specs.Borrow.{Bor}
use Rattle.std.specs.Fmt.{decimal}
use Rattle.match_log.specs.ShownTexts.{is_visible}
use Rattle.match_log.specs.declared.events.Json.{Json}
use Rattle.match_log.specs.declared.events.Json.TheVariants.{Number, Text, Parts}
use Rattle.match_log.specs.declared.events.Addressee.{Addressee}
use Rattle.match_log.specs.declared.events.Exchange.{Exchange}
use Rattle.match_log.specs.declared.events.Event.{Event}
use Rattle.match_log.specs.declared.events.Event.TheVariants.{Begun, Message, Open, End, Absent, NoRecord, LeftOut}

abbrev pub hex_digit : ℕ → ℕ
hex_digit number = if nat_lt number 10 then number + 48 else number + 87

-- A byte in a string: a quotation mark or a backslash has a backslash before it, any other byte from the space to the tilde is unchanged,
-- and every other byte is `\u` with its number in four hexadecimal digits.
abbrev pub escaped : ℕ → List ℕ
escaped byte = if (byte == 34) || (byte == 92) then 92 ∷ byte ∷ []
    else if is_visible byte then byte ∷ []
    else 92 ∷ 117 ∷ 48 ∷ 48 ∷ hex_digit (byte / 16) ∷ hex_digit (byte % 16) ∷ []

-- a text of any bytes between quotation marks
abbrev pub json_string : List ℕ → List ℕ
json_string text = 34 ∷ (flat_map escaped text ++ 34 ∷ [])

-- the value, or null
abbrev pub nullable : {A : Type 0} → (A → List ℕ) → Option A → List ℕ
nullable text None = codes "null"
nullable text (Some value) = text value

abbrev pub json_value : Json → List ℕ
json_value (Number number) = nullable decimal number
json_value (Text text) = nullable json_string (option_map (λ bytes. bytes.now) text)
json_value (Parts before middle after) = json_string (before.now ++ (middle.now ++ after.now))

-- a member of an object, from its name and the text of its value
abbrev pub member : List ℕ × List ℕ → List ℕ
member (name, value) = codes ",\"" ++ (name ++ (codes "\":" ++ value))

abbrev pub written_member : Bor (List ℕ) × Json → List ℕ
written_member m = member (m.0.now, json_value m.1)

-- the text line of the object with these members, with its line feed
abbrev pub object_line : List ℕ → List ℕ → List ℕ
object_line event members = codes "{\"event\":\"" ++ (event ++ (codes "\"" ++ (members ++ codes "}\n")))

-- the members that name the player of a role
abbrev pub addressee_members : Addressee → List (List ℕ × List ℕ)
addressee_members to = (codes "match", json_value to.id) ∷ (codes "role", decimal to.role) ∷ (codes "player", json_value to.name) ∷ []

-- the members of a message and its result
abbrev pub exchange_members : Exchange → List (List ℕ × List ℕ)
exchange_members e = (codes "number", decimal e.number) ∷ (codes "kind", json_value e.kind) ∷ (codes "round", json_value e.round)
    ∷ (codes "time", json_value e.time) ∷ (codes "ms", decimal e.millis) ∷ (codes "message", json_value e.message)
    ∷ (codes "answer", json_value e.answer) ∷ (codes "error", json_value e.error) ∷ (codes "reason", json_value e.reason) ∷ []

abbrev pub message_line : Addressee → Exchange → List ℕ
message_line to exchange = object_line (codes "message") (flat_map member (addressee_members to ++ exchange_members exchange))

-- the text line of an object of the log, with its line feed
abbrev pub event_line : Event → List ℕ
event_line (Begun version) = object_line (codes "log")
    (flat_map member ((codes "program", json_string (codes "ggp_manager")) ∷ (codes "version", json_string version.now) ∷ []))
event_line (Message to exchange) = message_line to exchange
event_line (Open id time) = object_line (codes "open") (flat_map member ((codes "match", json_value id) ∷ (codes "time", json_value time) ∷ []))
event_line (End id time kind) = object_line (codes "end")
    (flat_map member ((codes "match", json_value id) ∷ (codes "time", json_value time) ∷ (codes "kind", json_value kind) ∷ []))
event_line (Absent to) = object_line (codes "absent") (flat_map member (addressee_members to))
event_line (NoRecord id reason) = object_line (codes "no_record")
    (flat_map member ((codes "match", json_value id) ∷ (codes "reason", json_value reason) ∷ []))
event_line (LeftOut count) = object_line (codes "left_out") (flat_map member ((codes "count", decimal count) ∷ []))
