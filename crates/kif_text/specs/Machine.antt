-- The reader's steps as functions on plain values. `Reading` is defined with these functions. `Spelling` and `Faults` define the texts
-- that the reader accepts and those that it refuses; `laws::reading_is_spelling` relates `Reading` to `Spelling`.
use Rattle.std.specs.Prelude.{ℕ, suc, List, [], ◌∷◌, ◌++◌, length, Bool, true, false, not, ◌==◌, ◌&&◌, ◌||◌, nat_le, if◌then◌else◌, Result, Ok, Err}
use Rattle.game_core.specs.Bytes.{is_white, is_atom_byte, line_feed, semicolon, left_parenthesis, right_parenthesis}
use Rattle.game_core.specs.Expression.{Expression, atom, list, Expressions, none, more, max_depth}
use Rattle.kif_text.specs.declared.fault.KifFault.{KifFault}
use Rattle.kif_text.specs.declared.fault.KifFault.TheVariants as faults

-- an open list: the expressions before it at its level, and its offset
pub record Open : Type 0 where
  pub before : Expressions
  pub at : ℕ

-- The state of the reader: the open lists, innermost first, the expressions at the innermost level, the bytes of an unfinished atom, and
-- whether a comment is unfinished.
pub record State : Type 0 where
  pub levels : List Open
  pub here : Expressions
  pub word : List ℕ
  pub comment : Bool

abbrev pub start : State
start = record { levels = []; here = none; word = []; comment = false }

abbrev pub and_last : Expressions → Expression → Expressions
and_last none y = more y none
and_last (more x xs) y = more x (and_last xs y)

infixl 10 ◌>>=◌
abbrev pub ◌>>=◌ : {A B : Type 0} → Result A KifFault → (A → Result B KifFault) → Result B KifFault
(Ok x) >>= f = f x
(Err e) >>= f = Err e

abbrev pub with_word : Expressions → List ℕ → Expressions
with_word xs [] = xs
with_word xs (b ∷ bs) = and_last xs (atom (b ∷ bs))

abbrev pub flushed : State → State
flushed s = record { levels = s.levels; here = with_word s.here s.word; word = []; comment = s.comment }

abbrev pub open_list : ℕ → State → ℕ → Result State KifFault
open_list limit s i = if nat_le limit (length s.levels) then Err (faults.TooDeep i) else Ok (record { levels = record { before = s.here; at = i } ∷ s.levels; here = none; word = s.word; comment = s.comment })

abbrev pub close_on : List Open → State → ℕ → Result State KifFault
close_on [] s i = Err (faults.Unopened i)
close_on (l ∷ ls) s i = Ok (record { levels = ls; here = and_last l.before (list s.here); word = s.word; comment = s.comment })

abbrev pub close_list : State → ℕ → Result State KifFault
close_list s i = close_on s.levels s i

abbrev pub act : ℕ → State → ℕ → ℕ → Result State KifFault
act limit s i b = if b == semicolon then Ok (record { levels = s.levels; here = s.here; word = s.word; comment = true })
    else (if b == left_parenthesis then open_list limit s i
    else (if b == right_parenthesis then close_list s i
    else (if is_white b then Ok s else Err (faults.BadByte i))))

-- reads the byte b at offset i; at most limit lists may be open
abbrev pub step : ℕ → State → ℕ → ℕ → Result State KifFault
step limit s i b = if s.comment then Ok (record { levels = s.levels; here = s.here; word = s.word; comment = not (b == line_feed) })
    else (if is_atom_byte b then Ok (record { levels = s.levels; here = s.here; word = s.word ++ b ∷ []; comment = s.comment })
    else act limit (flushed s) i b)

abbrev pub count_of : Expressions → ℕ
count_of none = 0
count_of (more x xs) = suc (count_of xs)

-- the byte begins an expression outside all lists
abbrev pub begins_here : State → ℕ → Bool
begins_here s b = if s.comment then false else (if length s.levels == 0 then b == left_parenthesis || (is_atom_byte b && (length s.word == 0)) else false)

-- the byte begins an expression outside all lists that is not the first one
abbrev pub is_second : State → ℕ → Bool
is_second s b = begins_here s b && not (count_of s.here == 0 && length s.word == 0)

abbrev pub one_step : ℕ → State → ℕ → ℕ → Result State KifFault
one_step limit s i b = if is_second s b then Err (faults.More i) else step limit s i b

-- reads the bytes in turn, from offset i
unfoldable pub run : (State → ℕ → ℕ → Result State KifFault) → State → ℕ → List ℕ → Result State KifFault
run f s i [] = Ok s
run f s i (b ∷ bs) = f s i b >>= λ t. run f t (suc i) bs

abbrev pub finish_on : List Open → Expressions → Result Expressions KifFault
finish_on [] xs = Ok xs
finish_on (l ∷ ls) xs = Err (faults.Unclosed l.at)

abbrev pub finish : State → Result Expressions KifFault
finish s = finish_on s.levels (with_word s.here s.word)

abbrev pub read : ℕ → List ℕ → Result Expressions KifFault
read limit text = run (step limit) start 0 text >>= finish

abbrev pub last_of : Expressions → Result Expression KifFault
last_of none = Err faults.Nothing
last_of (more x none) = Ok x
last_of (more x (more y ys)) = last_of (more y ys)

abbrev pub read_single : List ℕ → Result Expression KifFault
read_single text = run (one_step max_depth) start 0 text >>= finish >>= last_of
