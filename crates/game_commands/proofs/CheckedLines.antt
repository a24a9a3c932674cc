-- Lines that are checked one after another.
use Rattle.std.proofs.Common.{◌≡◌, ◌+◌, ℕ, Bool, List, [], ◌∷◌, ◌++◌, length, Option, sym, ap, subst, ◌∙◌, inl, inr, arith, cond, zero-add}
use Rattle.std.specs.Prelude.{count_by}
use Rattle.std.proofs.lemmas.List.Sums.{sum_by_push}
use Rattle.std.proofs.lemmas.List.{append_assoc, flat_map_more}
use Rattle.std.specs.Io.KnownBytes.{Appends}
use Rattle.std.proofs.KnownBytes.{Appends-trans}
use Rattle.std.specs.Str.Lines.{lines}
use Rattle.game_core.specs.Counting.{Counting, CallsMade, one_more, max_stream_calls}
use Rattle.game_core.specs.Play.{Rules}
use Rattle.command_faults.specs.Limits.{max_line}
use Rattle.game_commands.specs.declared.verdicts.Verdict.{Verdict}
use Rattle.whole_streams.specs.Streams.{StopsReading, InputFails}
use Rattle.whole_streams.specs.Lines.{BeginsWithLines, HasNoLineFeed}
use Rattle.whole_streams.specs.declared.whole.InputFault.{InputFault}
use Rattle.whole_streams.specs.declared.whole.InputFault.TheVariants.{ReadFault, TooLong, Memory}
use Rattle.command_faults.specs.declared.fault.Fault.{Fault}
use Rattle.command_faults.specs.Faults.{input_fault}
use Rattle.game_commands.specs.Verdicts.{IsVerdict, AreVerdicts, verdict_line, verdict_lines}
use Rattle.game_commands.specs.Checks.{HasFirstLine, TellsVerdicts, LineFails, CheckStops}

pub begins_more : (text : List ℕ) (first : List (List ℕ)) (left given : List ℕ) → BeginsWithLines text first left → BeginsWithLines (text ++ given) first (left ++ given)
begins_more text first left given begins more =
    ap lines (append_assoc text given more) ∙ begins (given ++ more) ∙ ap (λ l. first ++ lines l) (sym (append_assoc left given more))

pub verdicts_push : {S M : Type 0} (g : Rules S M) (texts : List (List ℕ)) (verdicts : List Verdict) (text : List ℕ) (verdict : Verdict)
    → AreVerdicts g texts verdicts → IsVerdict g text verdict → AreVerdicts g (texts ++ text ∷ []) (verdicts ++ verdict ∷ [])
verdicts_push g [] [] text verdict before here = (here, tt)
verdicts_push g [] (v ∷ vs) text verdict before here = absurd before
verdicts_push g (t ∷ ts) [] text verdict before here = absurd before
verdicts_push g (t ∷ ts) (v ∷ vs) text verdict before here = (before.0, verdicts_push g ts vs text verdict before.1 here)

pub lines_push : (is_json : Bool) (a b c : Option (List ℕ)) (verdicts : List Verdict) (verdict : Verdict) → Appends a b (verdict_lines is_json verdicts) → Appends b c (verdict_line is_json verdict)
    → Appends a c (verdict_lines is_json (verdicts ++ verdict ∷ []))
lines_push is_json a b c verdicts verdict before here =
    subst (λ l. Appends a c l) (flat_map_more (verdict_line is_json) [] verdicts verdict) (Appends-trans a b c _ _ before here)

pub count_push : (counts : Verdict → Bool) (verdicts : List Verdict) (verdict : Verdict) → count_by counts (verdicts ++ verdict ∷ []) ≡ count_by counts verdicts + count_by counts (verdict ∷ [])
count_push counts verdicts verdict = sum_by_push (λ v. cond (counts v) 1 0) verdicts verdict ∙ ap (λ n. count_by counts verdicts + n) (sym (zero-add (cond (counts verdict) 1 0)))

pub calls_on : (a b c : ℕ) → CallsMade 0 a b → CallsMade 0 b c → CallsMade 0 a c
calls_on a b c before now below = omega (arith, now below, before)

pub stops_reading : {R : Type 0} (given : ℕ) (reader mid reader' : Counting R) → mid.faults ≡ reader.faults → CallsMade 0 reader.calls mid.calls → StopsReading given mid reader' → StopsReading given reader reader'
stops_reading given reader mid reader' same calls (inl failed) = inl (failed ∙ ap one_more same)
stops_reading given reader mid reader' same calls (inr ended) =
    let made : CallsMade max_stream_calls reader.calls reader'.calls = λ below. omega (arith, ended.0 below, calls) in
    inr (made, ended.1, ended.2 ∙ same)

pub read_stops : {S M R W : Type 0} (remaining : R → Option (List ℕ)) (contents : W → Option (List ℕ)) (is_json : Bool) (g : Rules S M) (fault : InputFault) (verdicts : List Verdict) (bytes lost left : List ℕ)
    (reader mid reader' : Counting R) (writer writer' : Counting W)
    → mid.faults ≡ reader.faults → CallsMade 0 reader.calls mid.calls → bytes ≡ lost ++ left → HasNoLineFeed lost → InputFails max_line fault lost mid reader' → TellsVerdicts contents is_json verdicts writer writer'
    → CheckStops remaining contents is_json g (input_fault fault) verdicts bytes reader reader' writer writer'
read_stops remaining contents is_json g ReadFault verdicts bytes lost left reader mid reader' writer writer' same calls cut feedless fails tells =
    ((lost, left, cut, feedless, (fails.0, stops_reading (length lost) reader mid reader' same calls fails.1)), tells)
read_stops remaining contents is_json g TooLong verdicts bytes lost left reader mid reader' writer writer' same calls cut feedless fails tells =
    (inl (lost, left, cut, feedless, fails.0), fails.1 ∙ same, tells)
read_stops remaining contents is_json g Memory verdicts bytes lost left reader mid reader' writer writer' same calls cut feedless fails tells =
    (fails.1 ∙ same, tells)

pub write_stops : {S M R W : Type 0} (remaining : R → Option (List ℕ)) (contents : W → Option (List ℕ)) (is_json : Bool) (g : Rules S M) (fault : Fault) (verdicts : List Verdict) (bytes line : List ℕ)
    (reader reader' : Counting R) (writer mid writer' : Counting W)
    → reader'.faults ≡ reader.faults → HasFirstLine (remaining reader'.stream) bytes line → TellsVerdicts contents is_json verdicts writer mid → LineFails contents is_json g fault line mid writer'
    → CheckStops remaining contents is_json g fault verdicts bytes reader reader' writer writer'
write_stops remaining contents is_json g fault verdicts bytes line reader reader' writer mid writer' same next tells (inl (is, kept)) =
    rw is (same, rw kept tells)
write_stops remaining contents is_json g fault verdicts bytes line reader reader' writer mid writer' same next tells (inr (is, (failed, part))) =
    rw is (same, (line, next, (failed ∙ ap one_more tells.1, (part.0, part.1, part.2, part.3, Appends-trans _ _ _ _ _ tells.0 part.4))))
