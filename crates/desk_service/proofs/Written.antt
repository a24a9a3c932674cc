-- The text that is written after the answers.
use Rattle.std.proofs.Common.{◌≡◌, ◌≤◌, ◌+◌, ℕ, List, [], ◌++◌, length, take, Option, Result, Ok, Err, refl, sym, ap, subst, ◌∙◌, arith}
use Rattle.std.proofs.Math.Seq.{take-append-add, take-length}
use Rattle.std.proofs.lemmas.List.{append-nil, length-append}
use Rattle.std.specs.Io.KnownBytes.{Appends}
use Rattle.std.proofs.KnownBytes.{Appends-nil, Appends-trans}
use Rattle.call_history.specs.Lines.{LockLineValue}
use Rattle.call_history.specs.declared.journal.CallFault.{CallFault}
use Rattle.call_history.specs.declared.journal.CallFault.TheVariants.{Full as HistoryFull, Memory as CallMemory}
use Rattle.std.specs.Prelude.{OnErr, OnOk}
use Rattle.whole_streams.specs.Streams.{AppendsPart}
use Rattle.whole_streams.specs.declared.whole.WriteFault.{WriteFault}
use Rattle.desk_service.specs.declared.ending.Ending.{Ending}
use Rattle.desk_service.specs.declared.ending.Ending.TheVariants.{Left, Broken, TooLong, Full, Memory}
use Rattle.desk_service.specs.Rows.{IsLeftAs, IsStopped, fault_ending, last_row, unanswered}
use Rattle.desk_service.specs.Conversations.{Says, WritesUpTo}

pub part_of_whole : (a b : Option (List ℕ)) (text : List ℕ) → Appends a b text → AppendsPart a b text
part_of_whole a b text whole = (length text, omega arith, subst (Appends a b) (sym (take-length text)) whole)

whole_and_part : (a b c : Option (List ℕ)) (text more : List ℕ) → Appends a b text → AppendsPart b c more → AppendsPart a c (text ++ more)
whole_and_part a b c text more whole (taken, within, part) =
    (length text + taken, omega (arith, length-append text more), subst (Appends a c) (sym (take-append-add text more taken)) (Appends-trans a b c _ _ whole part))

take_none : (n : ℕ) → take {A = ℕ} n [] ≡ []
take_none n = grind arith

nothing_more : (a b c : Option (List ℕ)) (text : List ℕ) → Appends a b text → AppendsPart b c [] → Appends a c text
nothing_more a b c text whole (taken, within, part) =
    subst (Appends a c) (ap (λ l. text ++ l) (take_none taken) ∙ append-nil text) (Appends-trans a b c _ _ whole part)

pub says : (ending : Ending) (a b c : Option (List ℕ)) (text : List ℕ) → WritesUpTo ending a b text → AppendsPart b c (last_row ending) → Says ending a c text
says Left a b c text written row = nothing_more a b c text written row
says Broken a b c text (taken, within, part) row = (taken, within, nothing_more a b c (take taken text) part row)
says TooLong a b c text written row = whole_and_part a b c text _ written row
says Full a b c text written row = whole_and_part a b c text _ written row
says Memory a b c text written row = whole_and_part a b c text _ written row

-- ---- how a conversation ends

pub nothing_written : (ending : Ending) (a : Option (List ℕ)) → WritesUpTo ending a a []
nothing_written Left a = Appends-nil a
nothing_written Broken a = part_of_whole a a [] (Appends-nil a)
nothing_written TooLong a = Appends-nil a
nothing_written Full a = Appends-nil a
nothing_written Memory a = Appends-nil a

pub whole_written : (ending : Ending) (a b : Option (List ℕ)) (text : List ℕ) → Appends a b text → WritesUpTo ending a b text
whole_written Left a b text whole = whole
whole_written Broken a b text whole = part_of_whole a b text whole
whole_written TooLong a b text whole = whole
whole_written Full a b text whole = whole
whole_written Memory a b text whole = whole

pub more_written : (ending : Ending) (a b c : Option (List ℕ)) (text more : List ℕ) → Appends a b text → WritesUpTo ending b c more → WritesUpTo ending a c (text ++ more)
more_written Left a b c text more whole rest = Appends-trans a b c text more whole rest
more_written Broken a b c text more whole rest = whole_and_part a b c text more whole rest
more_written TooLong a b c text more whole rest = Appends-trans a b c text more whole rest
more_written Full a b c text more whole rest = Appends-trans a b c text more whole rest
more_written Memory a b c text more whole rest = Appends-trans a b c text more whole rest

pub at_most_one : (ending : Ending) → unanswered ending ≤ 1
at_most_one Left = omega arith
at_most_one Broken = omega arith
at_most_one TooLong = omega arith
at_most_one Full = omega arith
at_most_one Memory = omega arith

pub left_as_it_is : (ending : Ending) (line : LockLineValue) → IsLeftAs ending line line
left_as_it_is ending line = (refl, omega arith, omega arith)

pub left_broken : (ending : Ending) (line line' : LockLineValue) → IsLeftAs ending line line' → IsLeftAs Broken line line'
left_broken ending line line' (number, least, most) = (number, least, omega (arith, most, at_most_one ending))

pub left_by_fault : (fault : CallFault) (line line' : LockLineValue) → line'.number ≡ line.number → line.made ≤ line'.made → line'.made ≤ line.made + 1
    → (fault ≡ HistoryFull → line'.made ≡ line.made) → IsLeftAs (fault_ending fault) line line'
left_by_fault HistoryFull line line' number least most full = (number, least, omega (arith, full refl))
left_by_fault CallMemory line line' number least most full = (number, least, omega (arith, most))

pub stopped_by_fault : (fault : CallFault) → IsStopped (fault_ending fault)
stopped_by_fault HistoryFull = refl
stopped_by_fault CallMemory = refl

-- a write that succeeded or failed
pub tried_part : (r : Result (Unit {0}) WriteFault) (a b : Option (List ℕ)) (text : List ℕ) → OnOk r (Appends a b text) → OnErr r (AppendsPart a b text) → AppendsPart a b text
tried_part (Ok x) a b text whole part = part_of_whole a b text whole
tried_part (Err e) a b text whole part = part
