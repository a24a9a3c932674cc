-- The error of a text: the one with the lowest offset, or else one at the end.
use Rattle.std.specs.Prelude.{◌≡◌, ℕ, zero, suc, ◌+◌, ◌-◌, ◌<◌, ◌≤◌, List, [], ◌∷◌, length, take, slice_index, count_by, Bool, true, false, not, ◌&&◌, ◌||◌, ◌==◌, if◌then◌else◌}
use Rattle.game_core.specs.Bytes.{is_white, is_atom_byte, line_feed, space, semicolon, left_parenthesis, right_parenthesis}
use Rattle.game_core.specs.Expression.{max_depth}
use Rattle.kif_text.specs.Spelling.{max_length}
use Rattle.kif_text.specs.declared.fault.KifFault.{KifFault}
use Rattle.kif_text.specs.declared.fault.KifFault.TheVariants.{BadByte, Unopened, TooDeep, Unclosed, Nothing, More, TooLong, Memory}

-- This flag says whether a text is read as one expression or as any number of them. The errors of a text depend on it.
abbrev pub one_expression : Bool
one_expression = true

abbrev pub any_number : Bool
any_number = false

-- whether a comment continues after this byte, given whether one continues before it: a semicolon begins a comment, and a line feed ends it
abbrev pub is_inside : Bool → ℕ → Bool
is_inside before b = (before || b == semicolon) && not (b == line_feed)

-- the text with a space for each byte of a comment; the flag says whether the text begins inside a comment
abbrev pub bare_from : Bool → List ℕ → List ℕ
bare_from before [] = []
bare_from before (b ∷ bs) = (if is_inside before b then space else b) ∷ bare_from (is_inside before b) bs

-- the bare text: a space replaces each byte of a comment, so that offsets stay the same
abbrev pub bare : List ℕ → List ℕ
bare text = bare_from false text

abbrev pub is_known : ℕ → Bool
is_known b = is_white b || is_atom_byte b || b == left_parenthesis || b == right_parenthesis

-- Below, t is a bare text.

-- how many lists are opened before offset i
abbrev pub opened : List ℕ → ℕ → ℕ
opened t i = count_by (λ b. b == left_parenthesis) (take i t)

abbrev pub closed : List ℕ → ℕ → ℕ
closed t i = count_by (λ b. b == right_parenthesis) (take i t)

-- how many lists are open at offset i
abbrev pub level : List ℕ → ℕ → ℕ
level t i = opened t i - closed t i

-- the byte before offset i, or a space for offset 0
abbrev pub byte_before : List ℕ → ℕ → ℕ
byte_before t i = slice_index (space ∷ t) i

-- an expression begins at offset i: a list, or an atom with its first byte there
abbrev pub begins : List ℕ → ℕ → Bool
begins t i = slice_index t i == left_parenthesis || (is_atom_byte (slice_index t i) && not (is_atom_byte (byte_before t i)))

-- an expression outside all lists begins at offset i
abbrev pub starts : List ℕ → ℕ → Bool
starts t i = (level t i == 0) && begins t i

-- how many expressions outside all lists begin before offset i
abbrev pub started : List ℕ → ℕ → ℕ
started t zero = 0
started t (suc i) = (if starts t i then 1 else 0) + started t i

-- the text has this error at offset i
abbrev pub StandsAt : Bool → List ℕ → KifFault → ℕ → Type 0
StandsAt one t (BadByte at) i = (at ≡ i) × (at < length t) × (is_known (slice_index t at) ≡ false)
StandsAt one t (Unopened at) i = (at ≡ i) × (slice_index t at ≡ right_parenthesis) × (level t at ≡ 0)
StandsAt one t (TooDeep at) i = (at ≡ i) × (slice_index t at ≡ left_parenthesis) × (level t at ≡ max_depth)
StandsAt one t (More at) i = (one ≡ one_expression) × (at ≡ i) × (at < length t) × (starts t at ≡ true) × (started t at ≡ 1)
StandsAt one t (Unclosed at) i = ⊥
StandsAt one t Nothing i = ⊥
StandsAt one t TooLong i = ⊥
StandsAt one t Memory i = ⊥

-- the text has no error before offset n
abbrev pub IsClear : Bool → List ℕ → ℕ → Type 0
IsClear one t n = (e : KifFault) (i : ℕ) → i < n → StandsAt one t e i → ⊥

-- the text has this error at some offset, and no error before it
abbrev pub IsFirst : Bool → List ℕ → KifFault → Type 0
IsFirst one t e = (i : ℕ) × StandsAt one t e i × IsClear one t i

-- a list is opened at offset i and never closed
abbrev pub StaysOpen : List ℕ → ℕ → Type 0
StaysOpen t i = (i < length t) × (slice_index t i ≡ left_parenthesis) × ((j : ℕ) → i < j → j ≤ length t → level t i < level t j)

-- lists are open at the end, and the last of them was opened at offset i
abbrev pub IsUnclosed : List ℕ → ℕ → Type 0
IsUnclosed t i = (0 < level t (length t)) × StaysOpen t i × ((k : ℕ) → StaysOpen t k → k ≤ i)

abbrev pub IsNothing : List ℕ → Type 0
IsNothing t = (level t (length t) ≡ 0) × (started t (length t) ≡ 0)

-- the error of a text, for this limit of bytes: too long, or else the error with the lowest offset, or else an error at the end of the text;
-- or out of memory
abbrev pub IsFaultUpTo : ℕ → Bool → List ℕ → KifFault → Type 0
IsFaultUpTo limit one text (BadByte at) = (length text ≤ limit) × IsFirst one (bare text) (BadByte at)
IsFaultUpTo limit one text (Unopened at) = (length text ≤ limit) × IsFirst one (bare text) (Unopened at)
IsFaultUpTo limit one text (TooDeep at) = (length text ≤ limit) × IsFirst one (bare text) (TooDeep at)
IsFaultUpTo limit one text (More at) = (length text ≤ limit) × IsFirst one (bare text) (More at)
IsFaultUpTo limit one text (Unclosed at) = (length text ≤ limit) × IsClear one (bare text) (length text) × IsUnclosed (bare text) at
IsFaultUpTo limit one text Nothing = (length text ≤ limit) × (one ≡ one_expression) × IsClear one (bare text) (length text) × IsNothing (bare text)
IsFaultUpTo limit one text TooLong = limit < length text
IsFaultUpTo limit one text Memory = length text ≤ limit

-- the error of a text, for the usual limit of bytes
abbrev pub IsFault : Bool → List ℕ → KifFault → Type 0
IsFault one text e = IsFaultUpTo max_length one text e
