-- Lines that are answered one after another.
use Rattle.std.proofs.Common.{◌≡◌, ◌+◌, ◌≤◌, ℕ, List, [], ◌∷◌, ◌++◌, length, Option, take, sym, ap, subst, ◌∙◌, inl, inr, add_assoc, zero-add, refl}
use Rattle.std.specs.Prelude.{if◌then◌else◌, is_none}
use Rattle.std.proofs.lemmas.List.{append_assoc, append-nil}
use Rattle.std.specs.Io.KnownBytes.{Appends}
use Rattle.std.proofs.KnownBytes.{Appends-trans}
use Rattle.game_core.specs.Bytes.{line_feed}
use Rattle.game_core.specs.Counting.{Counting, CallsMade, one_more}
use Rattle.desk_calls.specs.declared.call.Call.{Call}
use Rattle.desk_calls.specs.declared.call.Reply.{Reply}
use Rattle.desk_text.specs.ScriptLines.{call_of}
use Rattle.whole_streams.specs.Streams.{InputFails}
use Rattle.whole_streams.specs.Lines.{HasNoLineFeed}
use Rattle.whole_streams.specs.declared.whole.InputFault.{InputFault}
use Rattle.whole_streams.specs.declared.whole.InputFault.TheVariants.{ReadFault, TooLong, Memory}
use Rattle.command_faults.specs.declared.fault.Fault.{Fault}
use Rattle.command_faults.specs.Faults.{input_fault}
use Rattle.game_commands.specs.Checks.{HasFirstLine}
use Rattle.game_commands.specs.Interactive.{StopsAnswering, StopsWriting, Writes}
use Rattle.game_commands.specs.Script.{after_line, after_lines, answer_lines, bad_lines, line_answer}
use Rattle.game_commands.specs.ScriptFaults.{max_script}
use Rattle.game_commands.proofs.CheckedLines.{stops_reading}

pub answers_append : {S : Type 0} (reply : S → Call → Reply) (after : S → Call → S) (s : S) (first more : List (List ℕ))
    → answer_lines reply after s (first ++ more) ≡ answer_lines reply after s first ++ answer_lines reply after (after_lines after s first) more
answers_append reply after s [] more = refl
answers_append reply after s (line ∷ first) more =
    let here = line_answer reply s (call_of line) ++ line_feed ∷ [] in
    let next = after_line after s (call_of line) in
    sym (append_assoc (line_answer reply s (call_of line)) (line_feed ∷ []) (answer_lines reply after next (first ++ more)))
    ∙ ap (λ l. here ++ l) (answers_append reply after next first more)
    ∙ sym (append_assoc here (answer_lines reply after next first) (answer_lines reply after (after_lines after next first) more))
    ∙ ap (λ l. l ++ answer_lines reply after (after_lines after next first) more) (append_assoc (line_answer reply s (call_of line)) (line_feed ∷ []) (answer_lines reply after next first))

pub after_append : {S : Type 0} (after : S → Call → S) (s : S) (first more : List (List ℕ)) → after_lines after s (first ++ more) ≡ after_lines after (after_lines after s first) more
after_append after s [] more = refl
after_append after s (line ∷ first) more = after_append after (after_line after s (call_of line)) first more

pub bad_append : (first more : List (List ℕ)) → bad_lines (first ++ more) ≡ bad_lines first + bad_lines more
bad_append [] more = sym (zero-add (bad_lines more))
bad_append (line ∷ first) more =
    let here = if is_none (call_of line) then 1 else 0 in
    ap (λ n. here + n) (bad_append first more) ∙ sym (add_assoc here (bad_lines first) (bad_lines more))

pub one_answer : {S : Type 0} (reply : S → Call → Reply) (after : S → Call → S) (s now : S) (first : List (List ℕ)) (line : List ℕ) → now ≡ after_lines after s first
    → answer_lines reply after s (first ++ line ∷ []) ≡ answer_lines reply after s first ++ answer_lines reply after now (line ∷ [])
one_answer reply after s now first line is = answers_append reply after s first (line ∷ []) ∙ ap (λ t. answer_lines reply after s first ++ answer_lines reply after t (line ∷ [])) (sym is)

pub read_stops : {R W : Type 0} (remaining : R → Option (List ℕ)) (contents : W → Option (List ℕ)) (answers : List (List ℕ) → List ℕ) (fault : InputFault) (first : List (List ℕ)) (bytes lost left : List ℕ)
    (reader mid reader' : Counting R) (writer writer' : Counting W)
    → mid.faults ≡ reader.faults → CallsMade 0 reader.calls mid.calls → bytes ≡ lost ++ left → HasNoLineFeed lost → InputFails max_script fault lost mid reader' → Writes contents (answers first) writer writer'
    → StopsAnswering remaining contents answers (input_fault fault) first bytes reader reader' writer writer'
read_stops remaining contents answers ReadFault first bytes lost left reader mid reader' writer writer' same calls cut feedless fails writes =
    ((lost, left, cut, feedless, (fails.0, stops_reading (length lost) reader mid reader' same calls fails.1)), writes)
read_stops remaining contents answers TooLong first bytes lost left reader mid reader' writer writer' same calls cut feedless fails writes =
    (inl (lost, left, cut, feedless, fails.0), fails.1 ∙ same, writes)
read_stops remaining contents answers Memory first bytes lost left reader mid reader' writer writer' same calls cut feedless fails writes =
    (fails.1 ∙ same, writes)

pub answer_stops : {R W : Type 0} (remaining : R → Option (List ℕ)) (contents : W → Option (List ℕ)) (answers : List (List ℕ) → List ℕ) (fault : Fault) (first : List (List ℕ)) (bytes line answer : List ℕ)
    (reader reader' : Counting R) (writer mid writer' : Counting W)
    → reader'.faults ≡ reader.faults → HasFirstLine (remaining reader'.stream) bytes line → answers (first ++ line ∷ []) ≡ answers first ++ answer → Writes contents (answers first) writer mid → StopsWriting contents [] answer fault mid writer'
    → StopsAnswering remaining contents answers fault first bytes reader reader' writer writer'
answer_stops remaining contents answers fault first bytes line answer reader reader' writer mid writer' same next is writes (inl (short, kept)) =
    rw short (same, (subst (λ l. Appends (contents writer.stream) (contents writer'.stream) l) (append-nil (answers first)) (Appends-trans _ _ _ _ _ writes.0 kept.0), kept.1 ∙ writes.1))
answer_stops remaining contents answers fault first bytes line answer reader reader' writer mid writer' same next is writes (inr (failed, part)) =
    let taken = part.1.2.0 in
    let within = subst (λ l. taken ≤ length l) (sym part.1.1) part.1.2.1 in
    let written = subst (λ l. Appends (contents writer.stream) (contents writer'.stream) (answers first ++ take taken l)) (sym part.1.1) (Appends-trans _ _ _ _ _ writes.0 part.1.2.2) in
    rw failed (same, (line, next, (part.0 ∙ ap one_more writes.1, (answer, is, (taken, within, written)))))
