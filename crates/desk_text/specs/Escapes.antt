-- The texts in call logs consist of visible ASCII and spaces. The backslash and all other bytes are escaped as \xHH.
use Rattle.std.specs.Prelude.{◌==◌, ◌&&◌, ℕ, ◌+◌, ◌-◌, ◌*◌, ◌/◌, ◌%◌, nat_le, nat_lt, Bool, true, false, not, List, [], ◌∷◌, ◌++◌, Option, Some, None, option_and_then, option_map, if◌then◌else◌}
use Rattle.game_core.specs.Bytes.{space}

abbrev pub backslash : ℕ
backslash = 92

abbrev pub letter_x : ℕ
letter_x = 120

abbrev pub exclamation_mark : ℕ
exclamation_mark = 33

-- whether a byte is not escaped: it is from `least` to the tilde, and is not the backslash
abbrev pub stands_from : ℕ → ℕ → Bool
stands_from least byte = nat_le least byte && nat_lt byte 127 && not (byte == backslash)

abbrev pub hex_digit : ℕ → ℕ
hex_digit number = if nat_lt number 10 then 48 + number else 87 + number

abbrev pub escape : ℕ → List ℕ
escape byte = backslash ∷ (letter_x ∷ (hex_digit (byte / 16) ∷ (hex_digit (byte % 16) ∷ [])))

abbrev pub escaped_from : ℕ → List ℕ → List ℕ
escaped_from least [] = []
escaped_from least (byte ∷ more) = (if stands_from least byte then byte ∷ [] else escape byte) ++ escaped_from least more

-- an escaped name; spaces are escaped too
abbrev pub escaped_name : List ℕ → List ℕ
escaped_name name = escaped_from exclamation_mark name

-- an escaped text; spaces are not escaped
abbrev pub escaped_text : List ℕ → List ℕ
escaped_text text = escaped_from space text

abbrev pub hex_value : ℕ → Option ℕ
hex_value digit = if nat_le 48 digit && nat_le digit 57 then Some (digit - 48) else (if nat_le 97 digit && nat_le digit 102 then Some (digit - 87) else None)

abbrev pub escaped_byte : ℕ → ℕ → Option ℕ
escaped_byte high low = option_and_then (λ h. option_map (λ l. h * 16 + l) (hex_value low)) (hex_value high)

abbrev pub before_rest : Option ℕ → Option (List ℕ) → Option (List ℕ)
before_rest byte rest = option_and_then (λ b. option_map (λ bytes. b ∷ bytes) rest) byte

-- the text without its escapes, or None if a backslash is not followed by xHH
abbrev pub unescaped : List ℕ → Option (List ℕ)
unescaped [] = Some []
unescaped (byte ∷ (mark ∷ (high ∷ (low ∷ rest)))) =
    if byte == backslash then (if mark == letter_x then before_rest (escaped_byte high low) (unescaped rest) else None)
    else before_rest (Some byte) (unescaped (mark ∷ (high ∷ (low ∷ rest))))
unescaped (byte ∷ rest) = if byte == backslash then None else before_rest (Some byte) (unescaped rest)

-- the value if the flag is true, or else None
abbrev pub read_as : {A : Type 0} → Bool → A → Option A
read_as true now = Some now
read_as false now = None

-- the number of bytes that the first byte takes, with its escape
abbrev pub bytes_taken : Option (ℕ × ℕ) → ℕ
bytes_taken None = 0
bytes_taken (Some read) = read.1

abbrev pub all_unescaped : List (List ℕ) → Option (List (List ℕ))
all_unescaped [] = Some []
all_unescaped (text ∷ more) = option_and_then (λ bytes. option_map (λ others. bytes ∷ others) (all_unescaped more)) (unescaped text)
