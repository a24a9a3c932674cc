-- The length of a body, from the fields of a head.
use Rattle.std.specs.Prelude.{ℕ, Bool, true, false, ◌&&◌, ◌==◌, if◌then◌else◌, List, [], ◌∷◌, ◌++◌, map, filter, codes}
use Rattle.std.specs.List.{list_all, list_any}
use Rattle.std.specs.Char.{to_ascii_lowercase}
use Rattle.std.specs.Str.{bytes_eq}
use Rattle.std.specs.Str.Parse.{digits_value}
use Rattle.game_core.specs.Numerals.{are_digits}
use Rattle.http_exchange.specs.declared.wire_fault.FrameFault.{FrameFault}
use Rattle.http_exchange.specs.declared.wire_fault.FrameFault.TheVariants.{TransferEncoding, NoNumber, TwoLengths, NoLength}

-- a name, and a value without surrounding white space
abbrev pub Header : Type 0
Header = List ℕ × List ℕ

-- the name is `small`, in upper or lower case; `small` is in lower case
abbrev pub has_name : List ℕ → List ℕ → Bool
has_name small name = bytes_eq (map to_ascii_lowercase name) small

abbrev pub transfer_encoding : List ℕ
transfer_encoding = codes "transfer-encoding"

abbrev pub content_length : List ℕ
content_length = codes "content-length"

abbrev pub writes_number : ℕ → List ℕ → Bool
writes_number n value = are_digits value && digits_value 10 value == n

-- no length, a length in bytes, or fields that are refused
pub data BodyLength : Type 0 where
  unsaid : BodyLength
  said : ℕ → BodyLength
  wrong : BodyLength

-- the values of all lengths in the fields
abbrev pub lengths : List Header → List (List ℕ)
lengths fields = map (λ (field : Header). field.1) (filter (λ (field : Header). has_name content_length field.0) fields)

-- Lengths agree if all consist of digits and give the same number. Leading zeros do not matter.
abbrev pub agreed : List (List ℕ) → BodyLength
agreed [] = unsaid
agreed (value ∷ values) =
    if list_all (writes_number (digits_value 10 value)) (value ∷ values) then said (digits_value 10 value) else wrong

abbrev pub body_length : List Header → BodyLength
body_length fields =
    if list_any (λ (field : Header). has_name transfer_encoding field.0) fields then wrong else agreed (lengths fields)

-- why a length does not agree with the lengths before it
abbrev pub value_fault : List ℕ → FrameFault
value_fault value = if are_digits value then TwoLengths else NoNumber

abbrev pub field_fault : Header → FrameFault
field_fault field = if has_name transfer_encoding field.0 then TransferEncoding else value_fault field.1

abbrev pub is_wrong : BodyLength → Bool
is_wrong unsaid = false
is_wrong (said n) = false
is_wrong wrong = true

-- why there is no usable length: the error of the first field in the second list that leaves the message without one
abbrev pub fault_behind : List Header → List Header → FrameFault
fault_behind before [] = NoLength
fault_behind before (field ∷ fields) =
    if is_wrong (body_length (before ++ (field ∷ []))) then field_fault field else fault_behind (before ++ (field ∷ [])) fields

-- Why the fields have no usable length: the error of the first field that leaves the message without one.
abbrev pub length_fault : List Header → FrameFault
length_fault fields = fault_behind [] fields
