-- The line of each entry of a history has the form of a line of a call log.
use Rattle.std.proofs.Common.{◌≡◌, ℕ, ◌+◌, ◌-◌, ◌/◌, ◌%◌, ◌<◌, ◌≤◌, ◌^◌, ◌==◌, suc, Bool, true, false, not, List, [], ◌∷◌, ◌++◌, map, length, if◌then◌else◌, codes, Option, Some, None, refl, ap, ◌∙◌, arith, eq-eqb, ne_eqb, leb-true}
use Rattle.std.specs.Prelude.{nat_le, nat_lt, slice_get}
use Rattle.std.specs.Char.{is_ascii_digit}
use Rattle.std.specs.Fmt.{decimal}
use Rattle.std.specs.List.{AllByRecursion, list_all, onto_first}
use Rattle.std.specs.Str.Parse.{AllDigits}
use Rattle.std.proofs.lemmas.Bool.{and_parts}
use Rattle.std.proofs.lemmas.Bool.Decides.{nat_tests}
use Rattle.std.proofs.lemmas.Fmt.{decimal_by_steps, decimal_is_IsNumeral}
use Rattle.std.proofs.lemmas.List.Splits.{slice_split-cons_yes, slice_split-cons_no}
use Rattle.std.proofs.lemmas.Str.Parse.{digit_from_value}
use Rattle.game_core.specs.Bytes.{space, tab}
use Rattle.game_core.specs.Numerals.{are_digits}
use Rattle.call_history.specs.declared.journal.Entry.{Entry}
use Rattle.desk_calls.specs.Phases.{phase_text}
use Rattle.desk_calls.specs.declared.call.Call.{Call}
use Rattle.desk_calls.specs.declared.call.Call.TheVariants.{Open, Next, Submit, Miss, Query, Abort}
use Rattle.desk_calls.specs.declared.call.Refusal.{Refusal}
use Rattle.desk_calls.specs.declared.call.Refusal.TheVariants.{BadId, IdUsed, NoGame, WrongPlayers, BadName, BadClock, BadStrikes, DeskFull, NoMatch, NoRole, Over as IsOver, Stale, Twice, Ended}
use Rattle.desk_calls.specs.declared.call.Reply.{Reply}
use Rattle.desk_calls.specs.declared.call.Reply.TheVariants.{Opened, Due as IsDue, Taken, Status, Aborting, Refused}
use Rattle.desk_calls.specs.declared.due.Due.TheVariants.{Owe, Hold, Over}
use Rattle.desk_calls.specs.declared.due.Owed.{Owed}
use Rattle.desk_calls.specs.declared.due.Owed.TheVariants.{Start, Play, Stop, Abort as OweAbort}
use Rattle.desk_text.specs.Account.{HasNumbers, IsEntry, call_text, entry_text}
use Rattle.desk_text.specs.Escapes.{escape, escaped_from, escaped_name, escaped_text, hex_digit, stands_from}
use Rattle.desk_text.specs.ScriptLines.{joint_text, owed_text, refusal_text, reply_text}
use Rattle.desk_text.specs.Words.{behind_spaces, max_in_64_bits, pieces, spaced, words}
use Rattle.desk_text.specs.AccountLines.{HasReplyNumbers, are_account_fields, begins_as_call, ends_as_reply, is_account_line, is_call_word}

abbrev Seen : List ℕ → Type 0
Seen bytes = AllByRecursion (λ byte. 32 ≤ byte) bytes

seen_append : (xs ys : List ℕ) → Seen xs → Seen ys → Seen (xs ++ ys)
seen_append [] ys front back = back
seen_append (x ∷ xs) ys front back = (front.0, seen_append xs ys front.1 back)

seen_tested : (xs : List ℕ) → list_all (λ byte. nat_le 32 byte) xs ≡ true → Seen xs
seen_tested [] is = tt
seen_tested (x ∷ xs) is =
    let both = and_parts (nat_le 32 x) (list_all (λ byte. nat_le 32 byte) xs) is in
    (leb-true 32 x both.0, seen_tested xs both.1)

seen_decimal : (n : ℕ) → n ≤ max_in_64_bits → Seen (decimal n)
seen_decimal n within = decimal_by_steps (λ _ digits. Seen digits) (λ digit below. (omega arith, tt)) (λ m digits some front. seen_append digits ((48 + m % 10) ∷ []) front (omega arith, tt)) n (omega (arith, within))

digit_from : (n : ℕ) → 48 ≤ hex_digit n
digit_from n = grind (arith, nat_tests)

stands_above : (least byte : ℕ) → stands_from least byte ≡ true → least ≤ byte
stands_above least byte is = grind (arith, nat_tests)

seen_escaped : (least : ℕ) (text : List ℕ) → 32 ≤ least → Seen (escaped_from least text)
seen_escaped least [] high = tt
seen_escaped least (byte ∷ more) high = step (stands_from least byte) refl (seen_escaped least more high)
  where
    step : (t : Bool) → stands_from least byte ≡ t → Seen (escaped_from least more) → Seen ((if t then byte ∷ [] else escape byte) ++ escaped_from least more)
    step true is rest = (omega (arith, high, stands_above least byte is), rest)
    step false is rest = (omega arith, (omega arith, (omega (arith, digit_from (byte / 16)), (omega (arith, digit_from (byte % 16)), rest))))

seen_name : (name : List ℕ) → Seen (escaped_name name)
seen_name name = seen_escaped 33 name (omega arith)

seen_names : (names : List (List ℕ)) → AllByRecursion Seen (map escaped_name names)
seen_names [] = tt
seen_names (name ∷ more) = (seen_name name, seen_names more)

seen_behind : (ws : List (List ℕ)) → AllByRecursion Seen ws → Seen (behind_spaces ws)
seen_behind [] each = tt
seen_behind (w ∷ ws) each = (omega arith, seen_append w (behind_spaces ws) each.0 (seen_behind ws each.1))

seen_spaced : (w : List ℕ) (ws : List (List ℕ)) → list_all (λ byte. nat_le 32 byte) w ≡ true → AllByRecursion Seen ws → Seen (spaced (w ∷ ws))
seen_spaced w ws is each = seen_append w (behind_spaces ws) (seen_tested w is) (seen_behind ws each)

seen_call : (call : Call) → HasNumbers call → Seen (call_text call)
seen_call (Open id game start play strikes players) n = step (strikes == 0)
  where
    step : (none : Bool) → Seen (spaced (if none then codes "open" ∷ (escaped_name id ∷ (decimal game ∷ (decimal start ∷ (decimal play ∷ map escaped_name players))))
        else codes "strict" ∷ (escaped_name id ∷ (decimal game ∷ (decimal start ∷ (decimal play ∷ (decimal strikes ∷ map escaped_name players)))))))
    step true = seen_spaced (codes "open") (escaped_name id ∷ (decimal game ∷ (decimal start ∷ (decimal play ∷ map escaped_name players)))) refl
        (seen_name id, (seen_decimal game n.0, (seen_decimal start (omega (arith, n.1)), (seen_decimal play (omega (arith, n.2)), seen_names players))))
    step false = seen_spaced (codes "strict") (escaped_name id ∷ (decimal game ∷ (decimal start ∷ (decimal play ∷ (decimal strikes ∷ map escaped_name players))))) refl
        (seen_name id, (seen_decimal game n.0, (seen_decimal start (omega (arith, n.1)), (seen_decimal play (omega (arith, n.2)), (seen_decimal strikes (omega (arith, n.3)), seen_names players)))))
seen_call (Next id role) n = seen_spaced (codes "next") (escaped_name id ∷ (decimal role ∷ [])) refl (seen_name id, (seen_decimal role n, tt))
seen_call (Submit id role round text) n =
    seen_spaced (codes "submit") (escaped_name id ∷ (decimal role ∷ (decimal round ∷ (escaped_text text ∷ [])))) refl (seen_name id, (seen_decimal role n.0, (seen_decimal round n.1, (seen_escaped space text (omega arith), tt))))
seen_call (Miss id role round broken) n = step broken
  where
    step : (t : Bool) → Seen (spaced (codes "miss" ∷ (escaped_name id ∷ (decimal role ∷ (decimal round ∷ ((if t then codes "broken" else codes "silent") ∷ []))))))
    step true = seen_spaced (codes "miss") (escaped_name id ∷ (decimal role ∷ (decimal round ∷ (codes "broken" ∷ [])))) refl (seen_name id, (seen_decimal role n.0, (seen_decimal round n.1, (seen_tested (codes "broken") refl, tt))))
    step false = seen_spaced (codes "miss") (escaped_name id ∷ (decimal role ∷ (decimal round ∷ (codes "silent" ∷ [])))) refl (seen_name id, (seen_decimal role n.0, (seen_decimal round n.1, (seen_tested (codes "silent") refl, tt))))
seen_call (Query id) n = seen_spaced (codes "query") (escaped_name id ∷ []) refl (seen_name id, tt)
seen_call (Abort id) n = seen_spaced (codes "abort") (escaped_name id ∷ []) refl (seen_name id, tt)

tab_cut : (xs ys : List ℕ) → Seen xs → pieces tab (xs ++ tab ∷ ys) ≡ xs ∷ pieces tab ys
tab_cut [] ys seen = slice_split-cons_yes (λ b. b == tab) tab ys (eq-eqb tab tab refl)
tab_cut (x ∷ xs) ys seen = slice_split-cons_no (λ b. b == tab) x (xs ++ tab ∷ ys) (ne_eqb x tab (λ same. omega (arith, seen.0, same))) ∙ ap (onto_first x) (tab_cut xs ys seen.1)

tab_uncut : (xs : List ℕ) → Seen xs → pieces tab xs ≡ xs ∷ []
tab_uncut [] seen = refl
tab_uncut (x ∷ xs) seen = slice_split-cons_no (λ b. b == tab) x xs (ne_eqb x tab (λ same. omega (arith, seen.0, same))) ∙ ap (onto_first x) (tab_uncut xs seen.1)

fields : (e : Entry Call Reply) → IsEntry e → pieces tab (entry_text e) ≡ decimal e.line ∷ (call_text e.call ∷ (escaped_text (reply_text e.reply) ∷ []))
fields e is =
    let reply = escaped_text (reply_text e.reply) in
    tab_cut (decimal e.line) (call_text e.call ++ tab ∷ reply) (seen_decimal e.line (omega (arith, is.line)))
    ∙ ap (λ more. decimal e.line ∷ more) (tab_cut (call_text e.call) reply (seen_call e.call is.call.numbers) ∙ ap (λ more. call_text e.call ∷ more) (tab_uncut reply (seen_escaped space (reply_text e.reply) (omega arith))))

all_digits : (digits : List ℕ) → AllDigits 10 digits → list_all is_ascii_digit digits ≡ true
all_digits [] each = refl
all_digits (x ∷ xs) each =
    let range = digit_from_value x each.0 in
    let test : is_ascii_digit x ≡ true = grind (arith, nat_tests, range) in
    rw (test, all_digits xs each.1) refl

number : (n : ℕ) → n < 2 ^ 64 → are_digits (decimal n) ≡ true
number n small =
    let numeral = decimal_is_IsNumeral n small in
    let long = numeral.0.0 in
    let some : nat_lt 0 (length (decimal n)) ≡ true = grind (arith, nat_tests) in
    rw (some, all_digits (decimal n) numeral.0.1) refl

word_cut : (w rest : List ℕ) → list_all (λ byte. not (byte == space)) w ≡ true → words (w ++ space ∷ rest) ≡ w ∷ words rest
word_cut [] rest is = slice_split-cons_yes (λ b. b == space) space rest (eq-eqb space space refl)
word_cut (x ∷ xs) rest is =
    let both = and_parts (not (x == space)) (list_all (λ byte. not (byte == space)) xs) is in
    slice_split-cons_no (λ b. b == space) x (xs ++ space ∷ rest) (denied (x == space) both.0) ∙ ap (onto_first x) (word_cut xs rest both.1)
  where
    denied : (t : Bool) → not t ≡ true → t ≡ false
    denied true is = cc
    denied false is = refl

keyword : (w rest : List ℕ) → list_all (λ byte. not (byte == space)) w ≡ true → is_call_word w ≡ true → begins_as_call (words (w ++ space ∷ rest)) ≡ true
keyword w rest lacks is = ap begins_as_call (word_cut w rest lacks) ∙ is

call_begins : (call : Call) → begins_as_call (words (call_text call)) ≡ true
call_begins (Open id game start play strikes players) = step (strikes == 0)
  where
    step : (none : Bool) → begins_as_call (words (spaced (if none then codes "open" ∷ (escaped_name id ∷ (decimal game ∷ (decimal start ∷ (decimal play ∷ map escaped_name players))))
        else codes "strict" ∷ (escaped_name id ∷ (decimal game ∷ (decimal start ∷ (decimal play ∷ (decimal strikes ∷ map escaped_name players)))))))) ≡ true
    step true = keyword (codes "open") (escaped_name id ++ behind_spaces (decimal game ∷ (decimal start ∷ (decimal play ∷ map escaped_name players)))) refl refl
    step false = keyword (codes "strict") (escaped_name id ++ behind_spaces (decimal game ∷ (decimal start ∷ (decimal play ∷ (decimal strikes ∷ map escaped_name players))))) refl refl
call_begins (Next id role) = keyword (codes "next") (escaped_name id ++ behind_spaces (decimal role ∷ [])) refl refl
call_begins (Submit id role round text) = keyword (codes "submit") (escaped_name id ++ behind_spaces (decimal role ∷ (decimal round ∷ (escaped_text text ∷ [])))) refl refl
call_begins (Miss id role round broken) = keyword (codes "miss") (escaped_name id ++ behind_spaces (decimal role ∷ (decimal round ∷ ((if broken then codes "broken" else codes "silent") ∷ [])))) refl refl
call_begins (Query id) = keyword (codes "query") (escaped_name id ++ behind_spaces []) refl refl
call_begins (Abort id) = keyword (codes "abort") (escaped_name id ++ behind_spaces []) refl refl

abbrev ends : List ℕ → Bool
ends [] = false
ends (x ∷ []) = ends_as_reply (Some x)
ends (x ∷ (y ∷ more)) = ends (y ∷ more)

last_ends : (xs : List ℕ) → ends xs ≡ true → ends_as_reply (slice_get xs (length xs - 1)) ≡ true
last_ends [] is = absurd cc
last_ends (x ∷ []) is = is
last_ends (x ∷ (y ∷ more)) is =
    let place : length (x ∷ (y ∷ more)) - 1 ≡ suc (length (y ∷ more) - 1) = omega arith in
    ap (λ n. ends_as_reply (slice_get (x ∷ (y ∷ more)) n)) place ∙ last_ends (y ∷ more) is

ends_cons : (x : ℕ) (xs : List ℕ) → ends xs ≡ true → ends (x ∷ xs) ≡ true
ends_cons x [] is = absurd cc
ends_cons x (y ∷ more) is = is

behind : (xs ys : List ℕ) → ends ys ≡ true → ends (xs ++ ys) ≡ true
behind [] ys is = is
behind (x ∷ xs) ys is = ends_cons x (xs ++ ys) (behind xs ys is)

digit_ends : (d : ℕ) → d < 10 → ends_as_reply (Some (48 + d)) ≡ true
digit_ends d small = grind (arith, nat_tests)

decimal_ends : (n : ℕ) → n ≤ max_in_64_bits → ends (decimal n) ≡ true
decimal_ends n within = decimal_by_steps (λ _ digits. ends digits ≡ true) (λ digit below. digit_ends digit below) (λ m digits some front. behind digits ((48 + m % 10) ∷ []) (digit_ends (m % 10) (omega arith))) n (omega (arith, within))

stands : (byte : ℕ) → ends_as_reply (Some byte) ≡ true → stands_from space byte ≡ true
stands byte is = grind (arith, nat_tests)

escaped_ends : (text : List ℕ) → ends text ≡ true → ends (escaped_text text) ≡ true
escaped_ends [] is = absurd cc
escaped_ends (x ∷ []) is = rw (stands x is) is
escaped_ends (x ∷ (y ∷ more)) is = behind (if stands_from space x then x ∷ [] else escape x) (escaped_from space (y ∷ more)) (escaped_ends (y ∷ more) is)

joint_ends : (moves : Option (List (List ℕ))) → ends (joint_text moves) ≡ true
joint_ends None = refl
joint_ends (Some moves) = behind (40 ∷ spaced moves) (41 ∷ []) refl

owed_ends : (owed : Owed) → ends (owed_text owed) ≡ true
owed_ends Start = refl
owed_ends (Play moves) = behind (codes "play ") (joint_text moves) (joint_ends moves)
owed_ends (Stop moves) = behind (codes "stop ") (joint_text moves) (joint_ends moves)
owed_ends OweAbort = refl

refusal_ends : (reason : Refusal) → HasReplyNumbers (Refused reason) → ends (refusal_text reason) ≡ true
refusal_ends BadId n = refl
refusal_ends IdUsed n = refl
refusal_ends NoGame n = refl
refusal_ends WrongPlayers n = refl
refusal_ends BadName n = refl
refusal_ends BadClock n = refl
refusal_ends BadStrikes n = refl
refusal_ends DeskFull n = refl
refusal_ends NoMatch n = refl
refusal_ends NoRole n = refl
refusal_ends IsOver n = refl
refusal_ends (Stale round) n = behind (codes "stale ") (decimal round) (decimal_ends round n)
refusal_ends Twice n = refl
refusal_ends Ended n = refl

reply_ends : (reply : Reply) → HasReplyNumbers reply → ends (reply_text reply) ≡ true
reply_ends Opened n = refl
reply_ends (IsDue (Owe round owed)) n = behind (codes "owe " ++ decimal round ++ codes " ") (owed_text owed) (owed_ends owed)
reply_ends (IsDue (Hold round)) n = behind (codes "hold ") (decimal round) (decimal_ends round n)
reply_ends (IsDue Over) n = refl
reply_ends Taken n = refl
reply_ends (Status s) n =
    behind (codes "status " ++ phase_text s.phase ++ codes " round " ++ decimal s.round ++ codes " turns " ++ decimal s.turns ++ codes " substitutions ") (decimal s.substitutions) (decimal_ends s.substitutions n)
reply_ends Aborting n = refl
reply_ends (Refused reason) n = behind (codes "refused ") (refusal_text reason) (refusal_ends reason n)

pub entry_is_line : (e : Entry Call Reply) → IsEntry e → HasReplyNumbers e.reply → is_account_line (entry_text e) ≡ true
entry_is_line e is n =
    let reply = escaped_text (reply_text e.reply) in
    let last = last_ends reply (escaped_ends (reply_text e.reply) (reply_ends e.reply n)) in
    ap are_account_fields (fields e is) ∙ rw (number e.line (omega (arith, is.line)), call_begins e.call, last) refl
