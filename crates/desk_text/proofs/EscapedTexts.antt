-- An escaped text fits into a line, and can be read again.
use Rattle.std.proofs.Common.{◌≡◌, ℕ, ◌+◌, ◌*◌, ◌/◌, ◌%◌, ◌<◌, ◌≤◌, ◌==◌, Bool, true, false, List, [], ◌∷◌, ◌++◌, map, length, take, drop, if◌then◌else◌, Option, Some, None, refl, ap, sym, ◌∙◌, append_assoc, arith}
use Rattle.std.specs.List.{AllByRecursion}
use Rattle.std.specs.Prelude.{option_map, slice_set}
use Rattle.std.proofs.lemmas.List.{take_more_set, drop-set-lt, drop-drop}
use Rattle.std.proofs.lemmas.Bool.Decides.{nat_tests}
use Rattle.desk_text.specs.Account.{AreBytes}
use Rattle.desk_text.specs.Escapes.{backslash, stands_from, hex_digit, escape, escaped_from, escaped_name, hex_value, escaped_byte, before_rest, unescaped, all_unescaped}
use Rattle.desk_text.proofs.Bytes.{AreFrom}

digit_read : (n : ℕ) → n < 16 → hex_value (hex_digit n) ≡ Some n
digit_read n small = grind (arith, nat_tests)

digit_from : (n : ℕ) → 48 ≤ hex_digit n
digit_from n = grind (arith, nat_tests)

byte_read : (byte : ℕ) → byte < 256 → escaped_byte (hex_digit (byte / 16)) (hex_digit (byte % 16)) ≡ Some byte
byte_read byte small =
    let whole : byte / 16 * 16 + byte % 16 ≡ byte = omega arith in
    rw (digit_read (byte / 16) (omega (arith, small)), digit_read (byte % 16) (omega arith)) (ap Some whole)

plain_read : (byte : ℕ) (rest : List ℕ) → (byte == backslash) ≡ false → unescaped (byte ∷ rest) ≡ before_rest (Some byte) (unescaped rest)
plain_read byte [] plain = rw plain refl
plain_read byte (x ∷ []) plain = rw plain refl
plain_read byte (x ∷ (y ∷ [])) plain = rw plain refl
plain_read byte (x ∷ (y ∷ (z ∷ more))) plain = rw plain refl

no_backslash : (least byte : ℕ) → stands_from least byte ≡ true → (byte == backslash) ≡ false
no_backslash least byte is = grind (arith, nat_tests)

not_below : (least byte : ℕ) → stands_from least byte ≡ true → least ≤ byte
not_below least byte is = grind (arith, nat_tests)

pub escapes_read : (least : ℕ) (text : List ℕ) → AreBytes text → unescaped (escaped_from least text) ≡ Some text
escapes_read least [] bytes = refl
escapes_read least (byte ∷ more) bytes = step (stands_from least byte) refl (escapes_read least more bytes.1)
  where
    step : (t : Bool) → stands_from least byte ≡ t → unescaped (escaped_from least more) ≡ Some more → unescaped ((if t then byte ∷ [] else escape byte) ++ escaped_from least more) ≡ Some (byte ∷ more)
    step true is rest = plain_read byte (escaped_from least more) (no_backslash least byte is) ∙ ap (before_rest (Some byte)) rest
    step false is rest = ap (before_rest (escaped_byte (hex_digit (byte / 16)) (hex_digit (byte % 16)))) rest ∙ ap (λ o. before_rest o (Some more)) (byte_read byte bytes.0)

pub names_read : (names : List (List ℕ)) → AllByRecursion AreBytes names → all_unescaped (map escaped_name names) ≡ Some names
names_read [] bytes = refl
names_read (name ∷ more) bytes = rw (escapes_read 33 name bytes.0, names_read more bytes.1) refl

pub escapes_from : (least : ℕ) (text : List ℕ) → least ≤ 48 → AreFrom least (escaped_from least text)
escapes_from least [] low = tt
escapes_from least (byte ∷ more) low = step (stands_from least byte) refl (escapes_from least more low)
  where
    step : (t : Bool) → stands_from least byte ≡ t → AreFrom least (escaped_from least more) → AreFrom least ((if t then byte ∷ [] else escape byte) ++ escaped_from least more)
    step true is rest = (not_below least byte is, rest)
    step false is rest = (omega (arith, low), (omega (arith, low), (omega (arith, low, digit_from (byte / 16)), (omega (arith, low, digit_from (byte % 16)), rest))))

pub names_from : (names : List (List ℕ)) → AllByRecursion (AreFrom 33) (map escaped_name names)
names_from [] = tt
names_from (name ∷ more) = (escapes_from 33 name (omega arith), names_from more)

pub byte_more : (bytes : List ℕ) (byte : ℕ) (rest : Option (List ℕ)) → option_map (λ behind. (bytes ++ byte ∷ []) ++ behind) rest ≡ option_map (λ behind. bytes ++ behind) (before_rest (Some byte) rest)
byte_more bytes byte None = refl
byte_more bytes byte (Some rest) = ap Some (append_assoc bytes (byte ∷ []) rest)

pub none_yet : (read : Option (List ℕ)) → option_map (λ behind. [] ++ behind) read ≡ read
none_yet None = refl
none_yet (Some bytes) = refl

-- the byte at this index is appended to the bytes that are already unescaped
pub kept_in_place : (bytes : List ℕ) (kept place taken byte : ℕ) (whole : Option (List ℕ)) → kept ≤ place → 0 < taken → place + taken ≤ length bytes
    → unescaped (drop place bytes) ≡ before_rest (Some byte) (unescaped (drop taken (drop place bytes)))
    → option_map (λ behind. take kept bytes ++ behind) (unescaped (drop place bytes)) ≡ whole
    → option_map (λ behind. take (kept + 1) (slice_set bytes kept byte) ++ behind) (unescaped (drop (place + taken) (slice_set bytes kept byte))) ≡ whole
kept_in_place bytes kept place taken byte whole before some within read so_far =
    let rest : Option (List ℕ) = unescaped (drop taken (drop place bytes)) in
    rw (take_more_set bytes kept byte (omega (arith, before, some, within)), drop-set-lt (place + taken) bytes kept byte (omega (arith, before, some)), sym (drop-drop taken place bytes))
    (byte_more (take kept bytes) byte rest ∙ (ap (option_map (λ behind. take kept bytes ++ behind)) (sym read) ∙ so_far))
