-- A call can be read from its words.
use Rattle.std.proofs.Common.{◌≡◌, ℕ, ◌<◌, ◌≤◌, ◌^◌, ◌++◌, ◌==◌, Bool, true, false, List, [], ◌∷◌, map, if◌then◌else◌, codes, Option, Some, refl, ap, ◌∙◌, sym, append-nil, arith, eqb-true, le-leb}
use Rattle.std.specs.Prelude.{option_and_then}
use Rattle.std.specs.Fmt.{decimal}
use Rattle.std.specs.List.{AllByRecursion, list_all}
use Rattle.game_core.specs.Bytes.{space}
use Rattle.game_core.specs.Numerals.{plain_number}
use Rattle.desk_calls.specs.declared.call.Call.{Call}
use Rattle.desk_calls.specs.declared.call.Call.TheVariants.{Open, Next, Submit, Miss, Query, Abort}
use Rattle.desk_text.specs.Account.{AreBytes, IsCall, call_words, call_text, account_call, unescaped_call}
use Rattle.desk_text.specs.Escapes.{escaped_name, escaped_text, unescaped}
use Rattle.desk_text.specs.ScriptLines.{account, call_of_words, is_name}
use Rattle.desk_text.specs.Words.{words, spaced, behind_spaces, max_in_32_bits, max_in_64_bits}
use Rattle.desk_text.proofs.Bytes.{AreFrom, cut_front, decimal_from, each_append, lacks_below, from_lower, from_tested, uncut}
use Rattle.desk_text.proofs.EscapedTexts.{escapes_from, escapes_read, names_from, names_read}
use Rattle.desk_text.proofs.Numbers.{number_read}
use Rattle.desk_text.proofs.WordLemmas.{spaced_behind}

-- ---- words without spaces

pub words_of_spaced : (w : List ℕ) (ws : List (List ℕ)) → AreFrom 33 w → AllByRecursion (AreFrom 33) ws → words (spaced (w ∷ ws)) ≡ w ∷ ws
words_of_spaced w [] first others = ap words (append-nil w) ∙ uncut space w (lacks_below space 33 w (omega arith) first)
words_of_spaced w (v ∷ ws) first others = cut_front space w (v ++ behind_spaces ws) (lacks_below space 33 w (omega arith) first) ∙ ap (λ vs. w ∷ vs) (words_of_spaced v ws others.0 others.1)

-- if a text follows these words, its words follow them
pub words_of_text : (w : List ℕ) (ws : List (List ℕ)) (text : List ℕ) → AreFrom 33 w → AllByRecursion (AreFrom 33) ws → words (spaced (w ∷ (ws ++ text ∷ []))) ≡ w ∷ (ws ++ words text)
words_of_text w [] text first others = cut_front space w (text ++ []) (lacks_below space 33 w (omega arith) first) ∙ ap (λ t. w ∷ words t) (append-nil text)
words_of_text w (v ∷ ws) text first others = cut_front space w (spaced (v ∷ (ws ++ text ∷ []))) (lacks_below space 33 w (omega arith) first) ∙ ap (λ vs. w ∷ vs) (words_of_text v ws text others.0 others.1)

pub behind_from : (ws : List (List ℕ)) → AllByRecursion (AreFrom 32) ws → AreFrom 32 (behind_spaces ws)
behind_from [] each = tt
behind_from (w ∷ ws) each = (omega arith, each_append _ w (behind_spaces ws) each.0 (behind_from ws each.1))

pub spaced_from : (ws : List (List ℕ)) → AllByRecursion (AreFrom 32) ws → AreFrom 32 (spaced ws)
spaced_from [] each = tt
spaced_from (w ∷ ws) each = each_append _ w (behind_spaces ws) each.0 (behind_from ws each.1)

each_lower : (ws : List (List ℕ)) → AllByRecursion (AreFrom 33) ws → AllByRecursion (AreFrom 32) ws
each_lower [] each = tt
each_lower (w ∷ ws) each = (from_lower 33 32 w (omega arith) each.0, each_lower ws each.1)

-- ---- the words of each call

abbrev NoSpaces : List (List ℕ) → Type 0
NoSpaces ws = AllByRecursion (AreFrom 33) ws

small_64 : (n : ℕ) → n ≤ max_in_64_bits → n < 2 ^ 64
small_64 n within = omega (arith, within)

small_32 : (n : ℕ) → n ≤ max_in_32_bits → n < 2 ^ 64
small_32 n within = omega (arith, within)

number_64 : (n : ℕ) → n ≤ max_in_64_bits → AreFrom 33 (decimal n)
number_64 n within = decimal_from n (small_64 n within)

pub number_32 : (n : ℕ) → n ≤ max_in_32_bits → AreFrom 33 (decimal n)
number_32 n within = decimal_from n (small_32 n within)

name_from : (name : List ℕ) → AreFrom 33 (escaped_name name)
name_from name = escapes_from 33 name (omega arith)

abbrev open_of : List ℕ → ℕ → ℕ → ℕ → List (List ℕ) → List (List ℕ)
open_of id game start play players = codes "open" ∷ (escaped_name id ∷ (decimal game ∷ (decimal start ∷ (decimal play ∷ map escaped_name players))))

abbrev strict_of : List ℕ → ℕ → ℕ → ℕ → ℕ → List (List ℕ) → List (List ℕ)
strict_of id game start play strikes players = codes "strict" ∷ (escaped_name id ∷ (decimal game ∷ (decimal start ∷ (decimal play ∷ (decimal strikes ∷ map escaped_name players)))))

why_from : (broken : Bool) → AreFrom 33 (if broken then codes "broken" else codes "silent")
why_from true = from_tested 33 (codes "broken") refl
why_from false = from_tested 33 (codes "silent") refl

open_words : (id : List ℕ) (game start play : ℕ) (players : List (List ℕ)) → IsCall (Open id game start play 0 players)
    → NoSpaces (open_of id game start play players)
open_words id game start play players is =
    let n = is.numbers in
    (from_tested 33 (codes "open") refl, (name_from id, (number_64 game n.0, (number_32 start n.1, (number_32 play n.2, names_from players)))))

strict_words : (id : List ℕ) (game start play strikes : ℕ) (players : List (List ℕ)) → IsCall (Open id game start play strikes players)
    → NoSpaces (strict_of id game start play strikes players)
strict_words id game start play strikes players is =
    let n = is.numbers in
    (from_tested 33 (codes "strict") refl, (name_from id, (number_64 game n.0, (number_32 start n.1, (number_32 play n.2, (number_32 strikes n.3, names_from players))))))

next_words : (id : List ℕ) (role : ℕ) → IsCall (Next id role) → NoSpaces (call_words (Next id role))
next_words id role is = (from_tested 33 (codes "next") refl, (name_from id, (number_64 role is.numbers, tt)))

submit_words : (id : List ℕ) (role round : ℕ) (text : List ℕ) → IsCall (Submit id role round text) → NoSpaces (escaped_name id ∷ (decimal role ∷ (decimal round ∷ [])))
submit_words id role round text is = (name_from id, (number_64 role is.numbers.0, (number_64 round is.numbers.1, tt)))

miss_words : (id : List ℕ) (role round : ℕ) (broken : Bool) → IsCall (Miss id role round broken) → NoSpaces (call_words (Miss id role round broken))
miss_words id role round broken is = (from_tested 33 (codes "miss") refl, (name_from id, (number_64 role is.numbers.0, (number_64 round is.numbers.1, (why_from broken, tt)))))

query_words : (id : List ℕ) → IsCall (Query id) → NoSpaces (call_words (Query id))
query_words id is = (from_tested 33 (codes "query") refl, (name_from id, tt))

abort_words : (id : List ℕ) → IsCall (Abort id) → NoSpaces (call_words (Abort id))
abort_words id is = (from_tested 33 (codes "abort") refl, (name_from id, tt))

-- ---- reading them

abbrev worded : List (List ℕ) → Option Call
worded ws = option_and_then unescaped_call (call_of_words account ws)

read_64 : (n : ℕ) → n ≤ max_in_64_bits → plain_number (decimal n) max_in_64_bits ≡ Some n
read_64 n within = number_read n max_in_64_bits (small_64 n within) within

read_small : (n : ℕ) → n ≤ max_in_32_bits → plain_number (decimal n) max_in_64_bits ≡ Some n
read_small n within = read_64 n (omega (arith, within))

any_names : (words : List (List ℕ)) → list_all (is_name account) words ≡ true
any_names [] = refl
any_names (word ∷ more) = any_names more

pub read_32 : (n : ℕ) → n ≤ max_in_32_bits → plain_number (decimal n) max_in_32_bits ≡ Some n
read_32 n within = number_read n max_in_32_bits (small_32 n within) within

name_read : (name : List ℕ) → AreBytes name → unescaped (escaped_name name) ≡ Some name
name_read name bytes = escapes_read 33 name bytes

read_by : (w : List ℕ) (ws : List (List ℕ)) (call : Call) → NoSpaces (w ∷ ws) → worded (w ∷ ws) ≡ Some call → account_call (spaced (w ∷ ws)) ≡ Some call
read_by w ws call from read = ap worded (words_of_spaced w ws from.0 from.1) ∙ read

open_read : (id : List ℕ) (game start play strikes : ℕ) (players : List (List ℕ)) → IsCall (Open id game start play strikes players) → account_call (call_text (Open id game start play strikes players)) ≡ Some (Open id game start play strikes players)
open_read id game start play strikes players is = step (strikes == 0) refl
  where
    step : (none : Bool) → (strikes == 0) ≡ none → account_call (spaced (if none then open_of id game start play players else strict_of id game start play strikes players)) ≡ Some (Open id game start play strikes players)
    step true none =
        let n = is.numbers in
        let from = open_words id game start play players (record { names = is.names; text = tt; numbers = (n.0, n.1, n.2, omega arith) }) in
        read_by (codes "open") (escaped_name id ∷ (decimal game ∷ (decimal start ∷ (decimal play ∷ map escaped_name players)))) (Open id game start play 0 players) from
        (rw (read_64 game n.0, read_small start n.1, read_small play n.2, le-leb start max_in_32_bits n.1, le-leb play max_in_32_bits n.2, any_names (map escaped_name players), name_read id is.names.0, names_read players is.names.1) refl)
        ∙ ap (λ k. Some (Open id game start play k players)) (sym (eqb-true strikes 0 none))
    step false some =
        let n = is.numbers in
        read_by (codes "strict") (escaped_name id ∷ (decimal game ∷ (decimal start ∷ (decimal play ∷ (decimal strikes ∷ map escaped_name players))))) (Open id game start play strikes players) (strict_words id game start play strikes players is)
        (rw (read_64 game n.0, read_small start n.1, read_small play n.2, read_small strikes n.3, le-leb start max_in_32_bits n.1, le-leb play max_in_32_bits n.2, le-leb strikes max_in_32_bits n.3, any_names (map escaped_name players), name_read id is.names.0, names_read players is.names.1) refl)

next_read : (id : List ℕ) (role : ℕ) → IsCall (Next id role) → account_call (call_text (Next id role)) ≡ Some (Next id role)
next_read id role is = read_by (codes "next") (escaped_name id ∷ (decimal role ∷ [])) (Next id role) (next_words id role is) (rw (read_64 role is.numbers, name_read id is.names.0) refl)

submit_read : (id : List ℕ) (role round : ℕ) (text : List ℕ) → IsCall (Submit id role round text) → account_call (call_text (Submit id role round text)) ≡ Some (Submit id role round text)
submit_read id role round text is =
    let read : worded (codes "submit" ∷ (escaped_name id ∷ (decimal role ∷ (decimal round ∷ words (escaped_text text))))) ≡ Some (Submit id role round text) =
    rw (read_64 role is.numbers.0, read_64 round is.numbers.1, spaced_behind (Some (escaped_text text)), name_read id is.names.0, escapes_read space text is.text) refl in
    ap worded (words_of_text (codes "submit") (escaped_name id ∷ (decimal role ∷ (decimal round ∷ []))) (escaped_text text) (from_tested 33 (codes "submit") refl) (submit_words id role round text is)) ∙ read

miss_read : (id : List ℕ) (role round : ℕ) (broken : Bool) → IsCall (Miss id role round broken) → account_call (call_text (Miss id role round broken)) ≡ Some (Miss id role round broken)
miss_read id role round broken is =
    read_by (codes "miss") (escaped_name id ∷ (decimal role ∷ (decimal round ∷ ((if broken then codes "broken" else codes "silent") ∷ [])))) (Miss id role round broken) (miss_words id role round broken is) (read broken)
  where
    read : (why : Bool) → worded (codes "miss" ∷ (escaped_name id ∷ (decimal role ∷ (decimal round ∷ ((if why then codes "broken" else codes "silent") ∷ []))))) ≡ Some (Miss id role round why)
    read true = rw (read_64 role is.numbers.0, read_64 round is.numbers.1, name_read id is.names.0) refl
    read false = rw (read_64 role is.numbers.0, read_64 round is.numbers.1, name_read id is.names.0) refl

query_read : (id : List ℕ) → IsCall (Query id) → account_call (call_text (Query id)) ≡ Some (Query id)
query_read id is = read_by (codes "query") (escaped_name id ∷ []) (Query id) (query_words id is) (rw (name_read id is.names.0) refl)

abort_read : (id : List ℕ) → IsCall (Abort id) → account_call (call_text (Abort id)) ≡ Some (Abort id)
abort_read id is = read_by (codes "abort") (escaped_name id ∷ []) (Abort id) (abort_words id is) (rw (name_read id is.names.0) refl)

pub call_read : (call : Call) → IsCall call → account_call (call_text call) ≡ Some call
call_read (Open id game start play strikes players) is = open_read id game start play strikes players is
call_read (Next id role) is = next_read id role is
call_read (Submit id role round text) is = submit_read id role round text is
call_read (Miss id role round broken) is = miss_read id role round broken is
call_read (Query id) is = query_read id is
call_read (Abort id) is = abort_read id is

-- ---- they fit into a line

pub call_from : (call : Call) → IsCall call → AreFrom 32 (call_text call)
call_from (Open id game start play strikes players) is = step (strikes == 0)
  where
    step : (none : Bool)
        → AreFrom 32 (spaced (if none then open_of id game start play players else strict_of id game start play strikes players))
    step true = spaced_from (open_of id game start play players) (each_lower (open_of id game start play players) (open_words id game start play players (record { names = is.names; text = tt; numbers = (is.numbers.0, is.numbers.1, is.numbers.2, omega arith) })))
    step false = spaced_from (strict_of id game start play strikes players) (each_lower (strict_of id game start play strikes players) (strict_words id game start play strikes players is))
call_from (Next id role) is = spaced_from (call_words (Next id role)) (each_lower (call_words (Next id role)) (next_words id role is))
call_from (Submit id role round text) is =
    let stand = submit_words id role round text is in
    let ids = escaped_name id ∷ (decimal role ∷ (decimal round ∷ [])) in
    spaced_from (codes "submit" ∷ (ids ++ escaped_text text ∷ [])) (from_tested 32 (codes "submit") refl, each_append (AreFrom 32) ids (escaped_text text ∷ []) (each_lower ids stand) (escapes_from 32 text (omega arith), tt))
call_from (Miss id role round broken) is = spaced_from (call_words (Miss id role round broken)) (each_lower (call_words (Miss id role round broken)) (miss_words id role round broken is))
call_from (Query id) is = spaced_from (call_words (Query id)) (each_lower (call_words (Query id)) (query_words id is))
call_from (Abort id) is = spaced_from (call_words (Abort id)) (each_lower (call_words (Abort id)) (abort_words id is))
