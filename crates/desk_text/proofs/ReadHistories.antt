-- The lines of a history determine the history.
use Rattle.std.proofs.Common.{◌≡◌, ◌≢◌, ℕ, ◌+◌, ◌-◌, ◌<◌, ◌==◌, Bool, List, [], ◌∷◌, ◌++◌, length, map, Some, refl, sym, ap, ◌∙◌, subst, arith, ne_eqb}
use Rattle.std.specs.Prelude.{slice_index}
use Rattle.std.specs.Fmt.{decimal}
use Rattle.std.specs.List.{AllByRecursion, slice_split}
use Rattle.std.specs.Str.Lines.{lines, lines_of_parts, strip_carriage_return}
use Rattle.std.proofs.lemmas.List.Splits.{length-slice_split}
use Rattle.game_core.specs.Bytes.{line_feed, carriage_return, tab}
use Rattle.call_history.specs.History.{IsLegalHistory, run}
use Rattle.call_history.specs.declared.journal.Entry.{Entry}
use Rattle.desk_calls.specs.declared.call.Call.{Call}
use Rattle.desk_calls.specs.declared.call.Reply.{Reply}
use Rattle.desk_text.specs.Account.{IsEntry, IsRead, Tell, call_text, entry_call, entry_text, fields_call, history_text}
use Rattle.desk_text.specs.Escapes.{escaped_text}
use Rattle.desk_text.specs.Replaying.{IsFirstFault, RefusesLine, TellNoHistory}
use Rattle.desk_text.specs.ScriptLines.{reply_text}
use Rattle.desk_text.specs.declared.replaying.ReplayFault.{ReplayFault}
use Rattle.desk_text.specs.declared.replaying.ReplayFault.TheVariants.{Memory, NoEntry, Differs}
use Rattle.desk_text.proofs.Bytes.{Lacks, cut_front, each_append, index_lacks, lacks_below}
use Rattle.desk_text.proofs.EscapedTexts.{escapes_from}
use Rattle.desk_text.proofs.ReadCalls.{call_from, call_read, number_32, read_32}

pub entry_read : (e : Entry Call Reply) → IsEntry e → IsRead e
entry_read e is =
    let line_from = number_32 e.line is.line in
    let words_from = call_from e.call is.call in
    let reply = escaped_text (reply_text e.reply) in
    ap fields_call (cut_front tab (decimal e.line) (call_text e.call ++ tab ∷ reply) (lacks_below tab 33 _ (omega arith) line_from)
    ∙ ap (λ fields. decimal e.line ∷ fields) (cut_front tab (call_text e.call) reply (lacks_below tab 32 _ (omega arith) words_from)))
    ∙ rw (read_32 e.line is.line, call_read e.call is.call) refl

-- the text of an entry has no control character except tabs
entry_lacks : (c : ℕ) (e : Entry Call Reply) → c < 32 → c ≢ tab → IsEntry e → Lacks c (entry_text e)
entry_lacks c e small other is =
    let field = lacks_below c 32 (escaped_text (reply_text e.reply)) small (escapes_from 32 (reply_text e.reply) (omega arith)) in
    let words = lacks_below c 32 (call_text e.call) small (call_from e.call is.call) in
    each_append _ (decimal e.line) (tab ∷ (call_text e.call ++ tab ∷ escaped_text (reply_text e.reply)))
    (lacks_below c 33 _ (omega (arith, small)) (number_32 e.line is.line))
    (λ same. other (sym same), each_append _ (call_text e.call) (tab ∷ escaped_text (reply_text e.reply)) words (λ same. other (sym same), field))

parts_more : (x : List ℕ) (parts : List (List ℕ)) → 0 < length parts → lines_of_parts (x ∷ parts) ≡ strip_carriage_return x ∷ lines_of_parts parts
parts_more x [] some = absurd (omega arith)
parts_more x (y ∷ more) some = refl

unstripped : (xs : List ℕ) → Lacks carriage_return xs → strip_carriage_return xs ≡ xs
unstripped xs lacks = rw (ne_eqb (slice_index xs (length xs - 1)) carriage_return (index_lacks carriage_return xs (length xs - 1) (omega arith) lacks)) refl

pub history_lines : (history : List (Entry Call Reply)) → AllByRecursion IsEntry history → lines (history_text history) ≡ map entry_text history
history_lines [] are = refl
history_lines (e ∷ more) are =
    let is_feed : ℕ → Bool = λ b. b == line_feed in
    let rest = slice_split is_feed (history_text more) in
    let some : 0 < length rest = omega (arith, length-slice_split is_feed (history_text more)) in
    ap lines_of_parts (cut_front line_feed (entry_text e) (history_text more) (entry_lacks line_feed e (omega arith) (λ same. omega (arith, same)) are.0))
    ∙ parts_more (entry_text e) rest some
    ∙ ap (λ line. line ∷ lines_of_parts rest) (unstripped (entry_text e) (entry_lacks carriage_return e (omega arith) (λ same. omega (arith, same)) are.0))
    ∙ ap (λ others. entry_text e ∷ others) (history_lines more are.1)

entries_read : (history : List (Entry Call Reply)) → AllByRecursion IsEntry history → AllByRecursion IsRead history
entries_read [] are = tt
entries_read (e ∷ more) are = (entry_read e are.0, entries_read more are.1)

pub history_read : (history : List (Entry Call Reply)) → AllByRecursion IsEntry history → Tell (lines (history_text history)) history
history_read history are = record { texts = history_lines history are; are_read = entries_read history are }

same_pair : {A B : Type 0} (p q : A × B) → Some p ≡ Some q → (p.0 ≡ q.0) × (p.1 ≡ q.1)
same_pair p q same =
    let pair : p ≡ q = cc in
    (ap (λ x. x.0) pair, ap (λ x. x.1) pair)

same_cons : {A : Type 0} (x y : A) (xs ys : List A) → x ∷ xs ≡ y ∷ ys → (x ≡ y) × (xs ≡ ys)
same_cons x y xs ys same = (cc, cc)

text_same : (e f : Entry Call Reply) → e.line ≡ f.line → e.call ≡ f.call → e.reply ≡ f.reply → entry_text e ≡ entry_text f
text_same e f line call reply =
    ap (λ n. decimal n ++ tab ∷ (call_text e.call ++ tab ∷ escaped_text (reply_text e.reply))) line
    ∙ ap (λ made. decimal f.line ++ tab ∷ (call_text made ++ tab ∷ escaped_text (reply_text e.reply))) call
    ∙ ap (λ got. decimal f.line ++ tab ∷ (call_text f.call ++ tab ∷ escaped_text (reply_text got))) reply

line_refused : {S : Type 0} (reply : S → Call → Reply) (s : S) (place : ℕ) (line : List ℕ) (fault : ReplayFault) (e : Entry Call Reply) → fault ≢ Memory → entry_text e ≡ line → IsRead e → e.reply ≡ reply s e.call → RefusesLine reply s place line fault → ⊥
line_refused reply s place line Memory e other same read is refused = other refl
line_refused reply s place line (NoEntry at why) e other same read is refused = let none = ap entry_call same ∙ refused.1 in absurd cc
line_refused reply s place line (Differs at right) e other same read is (at_place, found, tells, replies, written, differs) =
    let parts = same_pair (e.line, e.call) (found.line, found.call) (sym read ∙ ap entry_call same ∙ tells) in
    let reply' : e.reply ≡ found.reply = is ∙ ap (reply s) parts.1 ∙ sym replies in
    differs (sym same ∙ text_same e found parts.0 parts.1 reply')

module _ {S : Type 0} (reply : S → Call → Reply) (after : S → Call → S) where
  no_other : (start : S) (before history : List (Entry Call Reply)) (line : List ℕ) (rest : List (List ℕ)) (place : ℕ) (fault : ReplayFault) → fault ≢ Memory
      → map entry_text history ≡ map entry_text before ++ line ∷ rest → AllByRecursion IsRead history → AllByRecursion IsRead before
      → IsLegalHistory reply after start history → IsLegalHistory reply after start before → RefusesLine reply (run after start before) place line fault → ⊥
  no_other start [] [] line rest place fault other same read read' legal legal' refused = absurd cc
  no_other start [] (e ∷ more) line rest place fault other same read read' legal legal' refused =
      line_refused reply start place line fault e other (same_cons (entry_text e) line (map entry_text more) rest same).0 read.0 legal.0 refused
  no_other start (b ∷ before) [] line rest place fault other same read read' legal legal' refused = absurd cc
  no_other start (b ∷ before) (e ∷ more) line rest place fault other same read read' legal legal' refused =
      let lines' = same_cons (entry_text e) (entry_text b) (map entry_text more) (map entry_text before ++ line ∷ rest) same in
      let parts = same_pair (e.line, e.call) (b.line, b.call) (sym read.0 ∙ ap entry_call lines'.0 ∙ read'.0) in
      no_other (after start b.call) before more line rest place fault other lines'.1 read.1 read'.1
      (subst (λ made. IsLegalHistory reply after (after start made) more) parts.1 legal.1) legal'.1 refused

  -- if a line after a legal history is refused, no legal history has these lines
  pub first_fault_refuses : (start : S) (account : List (List ℕ)) (fault : ReplayFault) → fault ≢ Memory → IsFirstFault reply after start account fault → TellNoHistory reply after start account
  first_fault_refuses start account fault other first object calls is =
      no_other start first.history is.history first.line first.rest (length first.history + 1) fault other
      (sym is.tell.texts ∙ first.cut) is.tell.are_read first.are_read is.legal first.legal first.refused
