-- The lines of call logs, which end at the lines that begin as records do.
use Rattle.std.proofs.Common.{rules, ◌≡◌, ◌≢◌, ◌<◌, ◌≤◌, ◌+◌, ◌-◌, ◌==◌, ◌&&◌, ℕ, zero, suc, Bool, true, false, List, [], ◌∷◌, ◌++◌, length, take, if◌then◌else◌, refl, sym, ap, subst, inl, inr, ◌∙◌, append-nil, append_assoc, arith}
use Rattle.std.specs.Prelude.{slice_index, not}
use Rattle.std.specs.List.{AllByRecursion}
use Rattle.std.proofs.lemmas.Bool.Decides.{nat_tests}
use Rattle.std.proofs.lemmas.List.{get_or-append-add, length-append, take-append-le, take_all, length_push}
use Rattle.std.proofs.lemmas.List.Elements.{All-push, All-take, filter-append}
use Rattle.std.proofs.lemmas.List.Sums.{sum_by_push, sum_by-cons}
use Rattle.std.proofs.KnownBytes.{Appends-trans}
use Rattle.std.specs.Str.Lines.{lines, strip_carriage_return}
use Rattle.std.specs.Prelude.{Option}
use Rattle.std.specs.Io.KnownBytes.{Appends}
use Rattle.game_core.specs.Play.{Rules}
use Rattle.game_core.specs.Counting.{Counting, CallsMade}
use Rattle.whole_streams.specs.Streams.{InputFails}
use Rattle.whole_streams.specs.declared.whole.InputFault.{InputFault}
use Rattle.whole_streams.specs.declared.whole.InputFault.TheVariants.{ReadFault as InputReadFault, TooLong, Memory as InputMemory}
use Rattle.whole_streams.specs.Lines.{HasNoLineFeed, BeginsWithLine, BeginsWithLines}
use Rattle.whole_streams.specs.Laws.{NextLineIsTaken}
use Rattle.command_faults.specs.declared.fault.Fault.{Fault}
use Rattle.command_faults.specs.Limits.{max_line}
use Rattle.game_commands.specs.declared.replaying.OpenAccount.{OpenAccount}
use Rattle.command_faults.specs.Faults.{input_fault}
use Rattle.game_commands.specs.Replays.{accounts, begins_as_record, groups, line_text, is_none, is_skipped, with_lines, at_least_one, account_size, line_count, max_account, AccountFails, AreReplayed, IsEnded, IsReplayed, StopsInput, StopsLongAccount}
use Rattle.game_commands.proofs.CheckedLines.{begins_more, stops_reading}

-- ---- groups of lines

abbrev pub HasNoRecord : List (List ℕ) → Type 0
HasNoRecord account = AllByRecursion (λ line. begins_as_record line ≡ false) account

pub groups_of : (account : List (List ℕ)) → HasNoRecord account → groups account ≡ account ∷ []
groups_of [] none = refl
groups_of (line ∷ more) none = rw (none.0, groups_of more none.1)

pub groups_cut : (account : List (List ℕ)) (line : List ℕ) (more : List (List ℕ)) → HasNoRecord account → begins_as_record line ≡ true → groups (account ++ line ∷ more) ≡ account ∷ groups more
groups_cut [] line more none is = rw is
groups_cut (first ∷ rest) line more none is = rw (none.0, groups_cut rest line more none.1 is)

pub with_lines_push : (done : List (List (List ℕ))) (line : List ℕ) (rest : List (List ℕ)) → with_lines (done ++ (line ∷ rest) ∷ []) ≡ with_lines done ++ (line ∷ rest) ∷ []
with_lines_push done line rest = filter-append (λ group. not (is_none group)) done ((line ∷ rest) ∷ [])

pub with_lines_none : (done : List (List (List ℕ))) → with_lines (done ++ [] ∷ []) ≡ with_lines done
with_lines_none done = filter-append (λ group. not (is_none group)) done ([] ∷ []) ∙ append-nil (with_lines done)

-- ---- the text of a call log

-- appending the text of a line to the text of a call log adds the line to the call log
pub text_push : NextLineIsTaken → (text : List ℕ) (account : List (List ℕ)) (line : List ℕ) → HasNoLineFeed line → BeginsWithLines text account [] → BeginsWithLines (text ++ (line ++ 13 ∷ 10 ∷ [])) (account ++ line ∷ []) []
text_push next_line text account line feedless begins =
    let whole = line ++ 13 ∷ [] in
    let long : length whole ≡ length line + 1 = length_push line 13 in
    let last : slice_index whole (length whole - 1) ≡ 13 = ap (λ n. slice_index whole n) (omega (arith, long)) ∙ get_or-append-add line (13 ∷ []) 0 0 in
    let stripped : line ≡ strip_carriage_return whole = sym (rw last (ap (λ n. take n whole) (omega (arith, long)) ∙ take-append-le (length line) line (13 ∷ []) (omega arith) ∙ take_all (length line) line (omega arith))) in
    next_line text account [] (line ++ 13 ∷ 10 ∷ []) line [] begins
    (whole, sym (append_assoc line (13 ∷ []) (10 ∷ [])), All-push (λ b. b ≢ 10) line 13 feedless (λ same. absurd (omega (arith, same))), stripped)

pub line_is_feedless : (bytes line left : List ℕ) → BeginsWithLine bytes line left → HasNoLineFeed line
line_is_feedless bytes line left begins = rw begins.3 (strips begins.0 begins.2)
  where
    strips : (whole : List ℕ) → HasNoLineFeed whole → HasNoLineFeed (strip_carriage_return whole)
    strips whole feedless = either (slice_index whole (length whole - 1) == 13)
      where
        either : (c : Bool) → HasNoLineFeed (if c then take (length whole - 1) whole else whole)
        either true = All-take (λ b. b ≢ 10) (length whole - 1) whole feedless
        either false = feedless

-- ---- replayed call logs

pub replayed_push : {G S M : Type 0} (is_json : Bool) (rules : G → Rules S M) (games : List G) (all : List (List (List ℕ))) (account : List (List ℕ)) (output text : List ℕ)
    → AreReplayed is_json rules games all output → IsReplayed is_json rules games account text → AreReplayed is_json rules games (all ++ account ∷ []) (output ++ text)
replayed_push is_json rules games [] account output text before here = (text, [], rw before (sym (append-nil text)), here, refl)
replayed_push is_json rules games (first ∷ more) account output text before here =
    (before.0, before.1 ++ text, ap (λ l. l ++ text) before.2 ∙ append_assoc before.0 before.1 text, before.3, replayed_push is_json rules games more account before.1 text before.4 here)

some_text : (byte : ℕ) (text : List ℕ) (is_last : Bool) (before : ℕ) → is_skipped (byte ∷ text) is_last before ≡ false
some_text byte text is_last before =
    let some : (length (byte ∷ text) == 0) ≡ false = grind (arith, nat_tests) in
    ap (λ b. b && not (is_last && before == 0)) some

no_more : (before : ℕ) → is_skipped [] true (suc before) ≡ true
no_more before =
    let some : (suc before == 0) ≡ false = grind (arith, nat_tests) in
    ap (λ b. not b) some

-- a call log that ends is replayed, unless it has no lines
pub replayed_more : {G S M : Type 0} (is_json : Bool) (rules : G → Rules S M) (games : List G) (done : List (List (List ℕ))) (text : List ℕ) (account : List (List ℕ)) (before : ℕ) (output end : List ℕ)
    → length text ≡ account_size account → AreReplayed is_json rules games (with_lines done) output → IsEnded is_json rules games (is_skipped text false before) account end
    → AreReplayed is_json rules games (with_lines (done ++ account ∷ [])) (output ++ end)
replayed_more is_json rules games done [] [] before output end size replayed ended =
    subst (λ all. AreReplayed is_json rules games all (output ++ end)) (sym (with_lines_none done)) (rw (ended, append-nil output) replayed)
replayed_more is_json rules games done (byte ∷ text) [] before output end size replayed ended = absurd (omega (arith, size))
replayed_more is_json rules games done [] (line ∷ rest) before output end size replayed ended = absurd (omega (arith, size, sum_by-cons (λ l. length l + 2) line rest))
replayed_more is_json rules games done (byte ∷ text) (line ∷ rest) before output end size replayed ended =
    subst (λ all. AreReplayed is_json rules games all (output ++ end)) (sym (with_lines_push done line rest)) (replayed_push is_json rules games (with_lines done) (line ∷ rest) output end replayed (subst (λ b. IsEnded is_json rules games b (line ∷ rest) end) (some_text byte text false before) ended))

none_counted : (done : List (List (List ℕ))) → line_count done ≡ 0 → with_lines done ≡ []
none_counted [] none = refl
none_counted ([] ∷ more) none = none_counted more (omega (arith, none, sum_by-cons length [] more))
none_counted ((line ∷ rest) ∷ more) none = absurd (omega (arith, none, sum_by-cons length (line ∷ rest) more))

some_counted : (done : List (List (List ℕ))) → 0 < line_count done → at_least_one (with_lines done) ≡ with_lines done
some_counted [] some = absurd (omega (arith, some))
some_counted ([] ∷ more) some = some_counted more (omega (arith, some, sum_by-cons length [] more))
some_counted ((line ∷ rest) ∷ more) some = refl

one_more_is_some : (all : List (List (List ℕ))) (account : List (List ℕ)) → at_least_one (all ++ account ∷ []) ≡ all ++ account ∷ []
one_more_is_some [] account = refl
one_more_is_some (first ∷ rest) account = refl

-- the same at the end of the input; there, a call log without lines counts if it is the only one
pub replayed_last : {G S M : Type 0} (is_json : Bool) (rules : G → Rules S M) (games : List G) (done : List (List (List ℕ))) (text : List ℕ) (account : List (List ℕ)) (before : ℕ) (output end : List ℕ)
    → length text ≡ account_size account → before ≡ line_count done → AreReplayed is_json rules games (with_lines done) output → IsEnded is_json rules games (is_skipped text true before) account end
    → AreReplayed is_json rules games (at_least_one (with_lines (done ++ account ∷ []))) (output ++ end)
replayed_last is_json rules games done [] [] zero output end size count replayed ended =
    let none = none_counted done (sym count) in
    rw (with_lines_none done, none) (replayed_push is_json rules games [] [] output end (rw none at replayed) ended)
replayed_last is_json rules games done [] [] (suc before) output end size count replayed ended =
    let none : end ≡ [] = subst (λ b. IsEnded is_json rules games b [] end) (no_more before) ended in
    let same : output ≡ output ++ end = sym (ap (λ l. output ++ l) none ∙ append-nil output) in
    rw (with_lines_none done, some_counted done (omega (arith, count))) (subst (AreReplayed is_json rules games (with_lines done)) same replayed)
replayed_last is_json rules games done (byte ∷ text) [] before output end size count replayed ended = absurd (omega (arith, size))
replayed_last is_json rules games done [] (line ∷ rest) before output end size count replayed ended = absurd (omega (arith, size, sum_by-cons (λ l. length l + 2) line rest))
replayed_last is_json rules games done (byte ∷ text) (line ∷ rest) before output end size count replayed ended =
    rw (with_lines_push done line rest, one_more_is_some (with_lines done) (line ∷ rest)) (replayed_push is_json rules games (with_lines done) (line ∷ rest) output end replayed (subst (λ b. IsEnded is_json rules games b (line ∷ rest) end) (some_text byte text true before) ended))

-- the output for a call log, and its error, have the format that was asked for
pub ended_as : {G S M : Type 0} (is_json json : Bool) (rules : G → Rules S M) (games : List G) (skipped : Bool) (account : List (List ℕ)) (output : List ℕ)
    → json ≡ is_json → IsEnded json rules games skipped account output → IsEnded is_json rules games skipped account output
ended_as is_json json rules games skipped account output form ended = subst (λ (b : Bool). IsEnded b rules games skipped account output) form ended

pub fails_as : {G S M W : Type 0} (contents : W → Option (List ℕ)) (is_json json : Bool) (rules : G → Rules S M) (games : List G) (before : ℕ) (account : List (List ℕ)) (writer writer' : Counting W) (fault : Fault)
    → json ≡ is_json → AccountFails contents json rules games before account writer writer' fault → AccountFails contents is_json rules games before account writer writer' fault
fails_as contents is_json json rules games before account writer writer' fault form fails = subst (λ (b : Bool). AccountFails contents b rules games before account writer writer' fault) form fails

-- ---- between two lines

-- What is known between two lines: the lines so far, the call logs that were replayed, their output, and the lines of the last call log.
pub record Reads {G S M W : Type 0} (contents : W → Option (List ℕ)) (is_json : Bool) (rules : G → Rules S M) (games : List G) (given buffer : List ℕ) (part : OpenAccount) (place : ℕ) (writer writer' : Counting W) : Type 0 where
  pub seen : List (List ℕ)
  pub done : List (List (List ℕ))
  pub account : List (List ℕ)
  pub output : List ℕ
  pub begins : BeginsWithLines given seen buffer
  pub text : BeginsWithLines part.text.items account []
  pub no_record : HasNoRecord account
  pub grouped : (more : List (List ℕ)) → groups (seen ++ more) ≡ done ++ groups (account ++ more)
  pub replayed : AreReplayed is_json rules games (with_lines done) output
  pub wrote : Appends (contents writer.stream) (contents writer'.stream) output
  pub no_fault : writer'.faults ≡ writer.faults
  pub size : length part.text.items ≡ account_size account
  pub within : length part.text.items ≤ max_account
  pub before : part.before ≡ line_count done
  pub form : part.is_json ≡ is_json
  pub counted : length seen ≡ place
  pub few : line_count done + length account ≤ place

pub lines_of : (text : List ℕ) (account : List (List ℕ)) → BeginsWithLines text account [] → lines text ≡ account
lines_of text account begins = ap lines (sym (append-nil text)) ∙ begins [] ∙ append-nil account

pub text_of_record : (text text' line : List ℕ) → text' ≡ text ++ line_text line → begins_as_record line ≡ true → text' ≡ text
text_of_record text text' line is begins = is ∙ ap (λ (b : Bool). text ++ (if b then [] else line ++ 13 ∷ 10 ∷ [])) begins ∙ append-nil text

pub text_of_line : (text text' line : List ℕ) → text' ≡ text ++ line_text line → begins_as_record line ≡ false → text' ≡ text ++ (line ++ 13 ∷ 10 ∷ [])
text_of_line text text' line is begins = is ∙ ap (λ (b : Bool). text ++ (if b then [] else line ++ 13 ∷ 10 ∷ [])) begins

text_size : (text text' line : List ℕ) → text' ≡ text ++ (line ++ 13 ∷ 10 ∷ []) → length text' ≡ length text + (length line + 2)
text_size text text' line is = ap length is ∙ length-append text (line ++ 13 ∷ 10 ∷ []) ∙ ap (λ n. length text + n) (length-append line (13 ∷ 10 ∷ []))

-- what is known about the last call log at the end of the input
pub record LastAccount (seen : List (List ℕ)) (done : List (List (List ℕ))) (text : List ℕ) (most : ℕ) : Type 0 where
  pub account : List (List ℕ)
  pub rest : List (List (List ℕ))
  pub lines : lines text ≡ account
  pub size : length text ≡ account_size account
  pub grouped : groups seen ≡ done ++ account ∷ rest
  pub none : with_lines rest ≡ []
  pub few : length account ≤ most

-- the call logs of an input are the earlier ones and the last one
pub accounts_are : (input : List ℕ) (seen : List (List ℕ)) (done : List (List (List ℕ))) (account : List (List ℕ)) (rest : List (List (List ℕ)))
    → lines input ≡ seen → groups seen ≡ done ++ account ∷ rest → with_lines rest ≡ [] → accounts input ≡ at_least_one (with_lines (done ++ account ∷ []))
accounts_are input seen done account rest are grouped none =
    let kept = λ (group : List (List ℕ)). not (is_none group) in
    let cut : with_lines (done ++ account ∷ rest) ≡ with_lines (done ++ account ∷ []) =
    ap with_lines (sym (append_assoc done (account ∷ []) rest)) ∙ filter-append kept (done ++ account ∷ []) rest ∙ ap (λ l. with_lines (done ++ account ∷ []) ++ l) none ∙ append-nil (with_lines (done ++ account ∷ [])) in
    ap (λ ls. at_least_one (with_lines (groups ls))) are ∙ ap (λ gs. at_least_one (with_lines gs)) grouped ∙ ap at_least_one cut

push_none : (account : List (List ℕ)) (line : List ℕ) → HasNoRecord account → begins_as_record line ≡ false → HasNoRecord (account ++ line ∷ [])
push_none [] line none is = (is, tt)
push_none (first ∷ rest) line none is = (none.0, push_none rest line none.1 is)

module _ {G S M W : Type 0} (contents : W → Option (List ℕ)) (is_json : Bool) (rules : G → Rules S M) (games : List G) (given buffer : List ℕ) (part : OpenAccount) (place : ℕ) (writer writer' : Counting W)
    (was : Reads contents is_json rules games given buffer part place writer writer') where
  more_groups : (line : List ℕ) (more : List (List ℕ)) → groups ((was.seen ++ line ∷ []) ++ more) ≡ was.done ++ groups (was.account ++ line ∷ more)
  more_groups line more = ap groups (append_assoc was.seen (line ∷ []) more) ∙ was.grouped (line ∷ more)

  pub grouped_line : (line : List ℕ) → begins_as_record line ≡ false → groups (was.seen ++ line ∷ []) ≡ was.done ++ (was.account ++ line ∷ []) ∷ []
  grouped_line line is = was.grouped (line ∷ []) ∙ ap (λ l. was.done ++ l) (groups_of (was.account ++ line ∷ []) (push_none was.account line was.no_record is))

  pub grouped_record : (line : List ℕ) → begins_as_record line ≡ true → groups (was.seen ++ line ∷ []) ≡ was.done ++ was.account ∷ [] ∷ []
  grouped_record line is = was.grouped (line ∷ []) ∙ ap (λ l. was.done ++ l) (groups_cut was.account line [] was.no_record is)

  pub grouped_all : groups was.seen ≡ was.done ++ was.account ∷ []
  grouped_all = ap groups (sym (append-nil was.seen)) ∙ was.grouped [] ∙ ap (λ l. was.done ++ groups l) (append-nil was.account) ∙ ap (λ l. was.done ++ l) (groups_of was.account was.no_record)

  pub size_push : (line : List ℕ) → length part.text.items + (length line + 2) ≡ account_size (was.account ++ line ∷ [])
  size_push line = ap (λ n. n + (length line + 2)) was.size ∙ sym (sum_by_push (λ l. length l + 2) was.account line)

  pub reads_line : NextLineIsTaken → (more line left : List ℕ) (part' : OpenAccount) → BeginsWithLine (buffer ++ more) line left → begins_as_record line ≡ false
      → part'.text.items ≡ part.text.items ++ (line ++ 13 ∷ 10 ∷ []) → part'.before ≡ part.before → part'.is_json ≡ part.is_json → length part'.text.items ≤ max_account
      → Reads contents is_json rules games (given ++ more) left part' (place + 1) writer writer'
  reads_line next_line more line left part' next is text before form within =
      let long : length part'.text.items ≡ length part.text.items + (length line + 2) = text_size part.text.items part'.text.items line text in
      let counted : length (was.account ++ line ∷ []) ≡ length was.account + 1 = length_push was.account line in
      record {
        seen = was.seen ++ line ∷ [];
        done = was.done;
        account = was.account ++ line ∷ [];
        output = was.output;
        begins = next_line given was.seen buffer more line left was.begins next;
        text = subst (λ t. BeginsWithLines t (was.account ++ line ∷ []) []) (sym text) (text_push next_line part.text.items was.account line (line_is_feedless (buffer ++ more) line left next) was.text);
        no_record = push_none was.account line was.no_record is;
        grouped = λ after. more_groups line after ∙ ap (λ l. was.done ++ groups l) (sym (append_assoc was.account (line ∷ []) after));
        replayed = was.replayed;
        wrote = was.wrote;
        no_fault = was.no_fault;
        size = long ∙ size_push line;
        within = within;
        before = before ∙ was.before;
        form = form ∙ was.form;
        counted = length_push was.seen line ∙ ap (λ n. n + 1) was.counted;
        few = omega (arith, was.few, counted);
      }

  pub reads_record : NextLineIsTaken → (more line left : List ℕ) (whole part' : OpenAccount) (mid : Counting W) (text : List ℕ) → BeginsWithLine (buffer ++ more) line left → begins_as_record line ≡ true
      → whole.text.items ≡ part.text.items → whole.before ≡ part.before → part'.text.items ≡ [] → part'.before ≡ whole.before + length (lines whole.text.items)
      → whole.is_json ≡ part.is_json → part'.is_json ≡ whole.is_json → IsEnded whole.is_json rules games (is_skipped whole.text.items false whole.before) (lines whole.text.items) text
      → Appends (contents writer'.stream) (contents mid.stream) text → mid.faults ≡ writer'.faults
      → Reads contents is_json rules games (given ++ more) left part' (place + 1) writer mid
  reads_record next_line more line left whole part' mid text next is same_text same_before empty counts same_form form ends wrote kept =
      let are = lines_of part.text.items was.account was.text in
      let before = rw (same_text, same_before) at counts in
      let ended = rw (same_text, same_form ∙ was.form) at ends in
      let count : line_count (was.done ++ was.account ∷ []) ≡ line_count was.done + length was.account = sum_by_push length was.done was.account in
      record {
        seen = was.seen ++ line ∷ [];
        done = was.done ++ was.account ∷ [];
        account = [];
        output = was.output ++ text;
        begins = next_line given was.seen buffer more line left was.begins next;
        text = rw empty (λ after. refl);
        no_record = tt;
        grouped = λ after. more_groups line after ∙ ap (λ l. was.done ++ l) (groups_cut was.account line after was.no_record is) ∙ sym (append_assoc was.done (was.account ∷ []) (groups after));
        replayed = replayed_more is_json rules games was.done part.text.items was.account part.before was.output text was.size was.replayed (subst (λ a. IsEnded is_json rules games (is_skipped part.text.items false part.before) a text) are ended);
        wrote = Appends-trans _ _ _ _ _ was.wrote wrote;
        no_fault = kept ∙ was.no_fault;
        size = ap length empty;
        within = rw empty (omega arith);
        form = form ∙ same_form ∙ was.form;
        before = before ∙ ap (λ n. part.before + n) (ap length are) ∙ ap (λ n. n + length was.account) was.before ∙ sym count;
        counted = length_push was.seen line ∙ ap (λ n. n + 1) was.counted;
        few = omega (arith, was.few, count);
      }

  -- what is known about the last call log after the last line of the input
  pub last_line : NextLineIsTaken → (line : List ℕ) (part' : OpenAccount) → HasNoLineFeed line → part'.text.items ≡ part.text.items ++ line_text line
      → LastAccount (was.seen ++ line ∷ []) was.done part'.text.items (length was.account + 1)
  last_line next_line line part' feedless text = go (begins_as_record line) refl
    where
      go : (b : Bool) → begins_as_record line ≡ b → LastAccount (was.seen ++ line ∷ []) was.done part'.text.items (length was.account + 1)
      go true is =
          let same = text_of_record part.text.items part'.text.items line text is in
          record {
            account = was.account;
            rest = [] ∷ [];
            lines = ap lines same ∙ lines_of part.text.items was.account was.text;
            size = ap length same ∙ was.size;
            grouped = grouped_record line is;
            none = refl;
            few = omega arith;
          }
      go false is =
          let added = text_of_line part.text.items part'.text.items line text is in
          let long : length part'.text.items ≡ length part.text.items + (length line + 2) = text_size part.text.items part'.text.items line added in
          let begins = subst (λ t. BeginsWithLines t (was.account ++ line ∷ []) []) (sym added) (text_push next_line part.text.items was.account line feedless was.text) in
          record {
            account = was.account ++ line ∷ [];
            rest = [];
            lines = lines_of part'.text.items (was.account ++ line ∷ []) begins;
            size = long ∙ size_push line;
            grouped = grouped_line line is;
            none = refl;
            few = omega (arith, length_push was.account line);
          }

  -- the same, if the input ends with a line feed
  pub no_line : LastAccount was.seen was.done part.text.items (length was.account + 1)
  no_line = record {
    account = was.account;
    rest = [];
    lines = lines_of part.text.items was.account was.text;
    size = was.size;
    grouped = grouped_all;
    none = refl;
    few = omega arith;
  }

-- ---- stopping

pub stops_push : {R : Type 0} (fault : Fault) (seen account : List (List ℕ)) (left : List ℕ) (size : ℕ) (reader reader' : Counting R) → StopsLongAccount fault size → size ≡ account_size account → reader'.faults ≡ reader.faults
    → StopsInput fault seen account left reader reader'
stops_push fault seen account left size reader reader' (inl is) same kept = rw is kept
stops_push fault seen account left size reader reader' (inr (is, long)) same kept = rw is (inr (inl (rw same at long)), kept)

pub stops_line : {R : Type 0} (fault : InputFault) (seen account : List (List ℕ)) (bytes lost left : List ℕ) (reader mid reader' : Counting R)
    → mid.faults ≡ reader.faults → CallsMade 0 reader.calls mid.calls → bytes ≡ lost ++ left → HasNoLineFeed lost → InputFails max_line fault lost mid reader'
    → StopsInput (input_fault fault) seen account bytes reader reader'
stops_line InputReadFault seen account bytes lost left reader mid reader' same calls cut feedless fails =
    (lost, left, cut, feedless, (fails.0, stops_reading (length lost) reader mid reader' same calls fails.1))
stops_line TooLong seen account bytes lost left reader mid reader' same calls cut feedless fails = (inl (lost, left, cut, feedless, fails.0), fails.1 ∙ same)
stops_line InputMemory seen account bytes lost left reader mid reader' same calls cut feedless fails = fails.1 ∙ same
