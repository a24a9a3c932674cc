-- The call log of a desk (an account): its history as text, with one line for each entry, and how that text is read.
use Rattle.std.specs.Prelude.{◌≡◌, ◌==◌, ℕ, ◌≤◌, ◌<◌, List, [], ◌∷◌, ◌++◌, map, length, Option, Some, None, option_and_then, option_map, codes, if◌then◌else◌}
use Rattle.std.specs.Fmt.{decimal}
use Rattle.std.specs.List.{AllByRecursion}
use Rattle.game_core.specs.Bytes.{line_feed, tab}
use Rattle.game_core.specs.Numerals.{plain_number}
use Rattle.call_history.specs.History.{IsLegalHistory, run}
use Rattle.call_history.specs.declared.journal.Entry.{Entry}
use Rattle.desk_calls.specs.declared.call.Call.{Call}
use Rattle.desk_calls.specs.declared.call.Call.TheVariants.{Open, Next, Submit, Miss, Query, Abort}
use Rattle.desk_calls.specs.declared.call.Reply.{Reply}
use Rattle.match_desk.specs.ManagerValue.{ManagerValue}
use Rattle.desk_text.specs.Escapes.{escaped_name, escaped_text, unescaped, all_unescaped}
use Rattle.desk_text.specs.Words.{pieces, words, spaced, max_in_32_bits, max_in_64_bits}
use Rattle.desk_text.specs.ScriptLines.{account, call_of_words, reply_text}

-- a new desk with these games
abbrev pub no_matches : {G M : Type 0} → List G → ManagerValue G M
no_matches games = record { games = games; matches = [] }

-- ---- writing

-- the words of a call, as in a script, except that names and text are escaped; `open` if strikes are 0, else `strict`
abbrev pub call_words : Call → List (List ℕ)
call_words (Open id game start play strikes players) =
    if strikes == 0 then codes "open" ∷ (escaped_name id ∷ (decimal game ∷ (decimal start ∷ (decimal play ∷ map escaped_name players))))
    else codes "strict" ∷ (escaped_name id ∷ (decimal game ∷ (decimal start ∷ (decimal play ∷ (decimal strikes ∷ map escaped_name players)))))
call_words (Next id role) = codes "next" ∷ (escaped_name id ∷ (decimal role ∷ []))
call_words (Submit id role round text) = codes "submit" ∷ (escaped_name id ∷ (decimal role ∷ (decimal round ∷ (escaped_text text ∷ []))))
call_words (Miss id role round broken) = codes "miss" ∷ (escaped_name id ∷ (decimal role ∷ (decimal round ∷ ((if broken then codes "broken" else codes "silent") ∷ []))))
call_words (Query id) = codes "query" ∷ (escaped_name id ∷ [])
call_words (Abort id) = codes "abort" ∷ (escaped_name id ∷ [])

abbrev pub call_text : Call → List ℕ
call_text call = spaced (call_words call)

-- an entry's text, without a line feed: the number of the line of the desk that made the call, the call, and its reply
abbrev pub entry_text : Entry Call Reply → List ℕ
entry_text e = decimal e.line ++ tab ∷ (call_text e.call ++ tab ∷ escaped_text (reply_text e.reply))

abbrev pub history_text : List (Entry Call Reply) → List ℕ
history_text [] = []
history_text (e ∷ more) = entry_text e ++ line_feed ∷ history_text more

-- ---- reading

abbrev pub unescaped_call : Call → Option Call
unescaped_call (Open id game start play strikes players) = option_and_then (λ name. option_map (λ names. Open name game start play strikes names) (all_unescaped players)) (unescaped id)
unescaped_call (Next id role) = option_map (λ name. Next name role) (unescaped id)
unescaped_call (Submit id role round text) = option_and_then (λ name. option_map (λ bytes. Submit name role round bytes) (unescaped text)) (unescaped id)
unescaped_call (Miss id role round broken) = option_map (λ name. Miss name role round broken) (unescaped id)
unescaped_call (Query id) = option_map (λ name. Query name) (unescaped id)
unescaped_call (Abort id) = option_map (λ name. Abort name) (unescaped id)

abbrev pub account_call : List ℕ → Option Call
account_call text = option_and_then unescaped_call (call_of_words account (words text))

-- the number of the line of the desk that made the call, and the call
abbrev pub fields_call : List (List ℕ) → Option (ℕ × Call)
fields_call (line ∷ (call ∷ more)) = option_and_then (λ number. option_map (λ made. (number, made)) (account_call call)) (plain_number line max_in_32_bits)
fields_call _ = None

abbrev pub entry_call : List ℕ → Option (ℕ × Call)
entry_call text = fields_call (pieces tab text)

-- reading an entry's text gives the entry's line number and call
abbrev pub IsRead : Entry Call Reply → Type 0
IsRead e = entry_call (entry_text e) ≡ Some (e.line, e.call)

-- the lines are those of the history, and each entry's call and line of the desk can be read from its text
pub record Tell (lines : List (List ℕ)) (history : List (Entry Call Reply)) : Type 0 where
  pub texts : lines ≡ map entry_text history
  pub are_read : AllByRecursion IsRead history

-- These are the lines of a history that is legal from this start, has this many calls, and leads to this object.
pub record IsAccount {S : Type 0} (reply : S → Call → Reply) (after : S → Call → S) (start : S) (lines : List (List ℕ)) (object : S) (calls : ℕ) : Type 0 where
  pub history : List (Entry Call Reply)
  pub tell : Tell lines history
  pub legal : IsLegalHistory reply after start history
  pub leaves : object ≡ run after start history
  pub counted : calls ≡ length history

-- ---- the bytes and numbers that a call can have

abbrev pub AreBytes : List ℕ → Type 0
AreBytes text = AllByRecursion (λ byte. byte < 256) text

abbrev pub HasNumbers : Call → Type 0
HasNumbers (Open id game start play strikes players) = (game ≤ max_in_64_bits) × (start ≤ max_in_32_bits) × (play ≤ max_in_32_bits) × (strikes ≤ max_in_32_bits)
HasNumbers (Next id role) = role ≤ max_in_64_bits
HasNumbers (Submit id role round text) = (role ≤ max_in_64_bits) × (round ≤ max_in_64_bits)
HasNumbers (Miss id role round broken) = (role ≤ max_in_64_bits) × (round ≤ max_in_64_bits)
HasNumbers (Query id) = Unit {0}
HasNumbers (Abort id) = Unit {0}

abbrev pub names_in : Call → List (List ℕ)
names_in (Open id game start play strikes players) = id ∷ players
names_in (Next id role) = id ∷ []
names_in (Submit id role round text) = id ∷ []
names_in (Miss id role round broken) = id ∷ []
names_in (Query id) = id ∷ []
names_in (Abort id) = id ∷ []

-- the text of a submission; empty for other calls
abbrev pub text_in : Call → List ℕ
text_in (Submit id role round text) = text
text_in _ = []

-- a call that can be made: its names and its text consist of bytes, and its numbers fit into their types
pub record IsCall (call : Call) : Type 0 where
  pub names : AllByRecursion AreBytes (names_in call)
  pub text : AreBytes (text_in call)
  pub numbers : HasNumbers call

pub record IsEntry (e : Entry Call Reply) : Type 0 where
  pub line : e.line ≤ max_in_32_bits
  pub call : IsCall e.call
