-- Rows that are answered one after another.
use Rattle.std.proofs.Common.{◌≡◌, ◌≢◌, ◌≤◌, ℕ, List, [], ◌∷◌, ◌++◌, length, Option, Some, None, Result, Ok, Err, refl, sym, ap, subst, ◌∙◌, arith}
use Rattle.std.specs.Prelude.{IfErr, MatchResult, OnOk}
use Rattle.std.proofs.lemmas.List.Elements.{All-append}
use Rattle.std.specs.Str.Lines.{lines, strip_carriage_return}
use Rattle.std.proofs.lemmas.List.{append_assoc, append-nil}
use Rattle.game_core.specs.Bytes.{line_feed}
use Rattle.call_history.specs.Lines.{LockLineValue}
use Rattle.call_history.specs.declared.journal.Entry.{Entry}
use Rattle.desk_calls.specs.declared.call.Call.{Call}
use Rattle.desk_calls.specs.declared.call.Reply.{Reply}
use Rattle.desk_text.specs.ScriptLines.{call_of}
use Rattle.whole_streams.specs.Laws.{NextLineIsTaken}
use Rattle.whole_streams.specs.Lines.{BeginsWithLine, BeginsWithLines, HasNoLineFeed}
use Rattle.desk_service.specs.declared.ending.Ending.{Ending}
use Rattle.desk_service.specs.Rows.{Answered, AnswersCall, AnswersRow, AnswersRows, IsLeftAs, IsPartialRow, IsStopped, answers_none, answers_more, max_row}
use Rattle.desk_service.proofs.Written.{left_as_it_is}

pub none_answered : (legal : Entry Call Reply → Type 0) (line : LockLineValue) (given : List ℕ) → Answered legal line line given [] given
none_answered legal line given = record { rows = []; begins = λ more. refl; answers = answers_none }

pub one_more_answered : NextLineIsTaken → (legal : Entry Call Reply → Type 0) (line last line' : LockLineValue) (given text text' row rest piece more grown : List ℕ)
    → Answered legal line last given text (row ++ rest) → rest ≡ piece ++ line_feed ∷ more → grown ≡ row ++ piece → HasNoLineFeed grown
    → line'.number ≡ last.number → AnswersRow legal last line' (strip_carriage_return grown) text text'
    → Answered legal line line' given text' more
one_more_answered next legal line last line' given text text' row rest piece more grown before cut is feedless same answer =
    let asked = strip_carriage_return grown in
    let whole : row ++ rest ≡ grown ++ line_feed ∷ more = ap (λ l. row ++ l) cut ∙ sym (append_assoc row piece (line_feed ∷ more)) ∙ ap (λ l. l ++ line_feed ∷ more) (sym is) in
    let first : BeginsWithLine ((row ++ rest) ++ []) asked more = (grown, append-nil (row ++ rest) ∙ whole, feedless, refl) in
    record {
      rows = before.rows ++ asked ∷ [];
      begins = subst (λ l. BeginsWithLines l (before.rows ++ asked ∷ []) more) (append-nil given) (next given before.rows (row ++ rest) [] asked more before.begins first);
      answers = answers_more before.rows asked text text' last line' before.answers same answer;
    }

-- an answer that is appended to more text
later_answer : (legal : Entry Call Reply → Type 0) (line line' : LockLineValue) (asked : Option Call) (before text text' : List ℕ)
    → AnswersCall legal line line' asked text text' → AnswersCall legal line line' asked (before ++ text) (before ++ text')
later_answer legal line line' None before text text' (made, is) = (made, ap (λ l. before ++ l) is ∙ sym (append_assoc before text _))
later_answer legal line line' (Some call) before text text' (made, (reply, here, is)) = (made, (reply, here, ap (λ l. before ++ l) is ∙ sym (append_assoc before text _)))

rows_append : (legal : Entry Call Reply → Type 0) (line mid last : LockLineValue) (first more : List (List ℕ)) (text text' : List ℕ)
    → AnswersRows legal line first text mid → AnswersRows legal mid more text' last → AnswersRows legal line (first ++ more) (text ++ text') last
rows_append legal line mid last first more text text' before answers_none =
    subst (λ l. AnswersRows legal line l (text ++ []) mid) (sym (append-nil first)) (subst (λ l. AnswersRows legal line first l mid) (sym (append-nil text)) before)
rows_append legal line mid last first more text text' before (answers_more rows row so_far so_long between end then same answer) =
    subst (λ l. AnswersRows legal line l (text ++ so_long) end) (append_assoc first rows (row ∷ []))
    (answers_more (first ++ rows) row (text ++ so_far) (text ++ so_long) between end (rows_append legal line mid between first rows text so_far before then) same
    (later_answer legal between end (call_of row) text so_far so_long answer))

rows_keep_number : (legal : Entry Call Reply → Type 0) (line last : LockLineValue) (rows : List (List ℕ)) (text : List ℕ) → AnswersRows legal line rows text last → last.number ≡ line.number
rows_keep_number legal line last rows text answers_none = refl
rows_keep_number legal line last rows text (answers_more first row so_far so_long between end then same answer) = same ∙ rows_keep_number legal line between first so_far then

pub answered_keeps_number : (legal : Entry Call Reply → Type 0) (line last : LockLineValue) (given text left : List ℕ) → Answered legal line last given text left → last.number ≡ line.number
answered_keeps_number legal line last given text left answered = rows_keep_number legal line last answered.rows text answered.answers

pub answered_on : (legal : Entry Call Reply → Type 0) (line mid last : LockLineValue) (given more text text' row left : List ℕ)
    → Answered legal line mid given text row → Answered legal mid last (row ++ more) text' left → Answered legal line last (given ++ more) (text ++ text') left
answered_on legal line mid last given more text text' row left before then = record {
  rows = before.rows ++ then.rows;
  begins = λ next. ap lines (append_assoc given more next)
      ∙ before.begins (more ++ next)
      ∙ ap (λ l. before.rows ++ lines l) (sym (append_assoc row more next))
      ∙ ap (λ l. before.rows ++ l) (then.begins next)
      ∙ sym (append_assoc before.rows then.rows (lines (left ++ next)));
  answers = rows_append legal line mid last before.rows then.rows text text' before.answers then.answers;
}

pub empty_row : IsPartialRow []
empty_row = (omega arith, λ k d below. absurd (omega arith))

-- the row that is left after the last line feed of a chunk
pub chunk_ends : (r : Result (Unit {0}) Ending) (row rest new : List ℕ) (line : LockLineValue) → OnOk r (new ≡ row ++ rest) → OnOk r (length new ≤ max_row) → IfErr r IsStopped
    → HasNoLineFeed row → HasNoLineFeed rest
    → MatchResult r (λ _. (new ≡ row ++ rest) × IsPartialRow (row ++ rest) × (line ≡ line)) (λ ending. IsStopped ending × IsLeftAs ending line line)
chunk_ends (Ok x) row rest new line grown within stopped before after =
    (grown, (subst (λ l. length l ≤ max_row) grown within, All-append (λ b. b ≢ line_feed) row rest before after), refl)
chunk_ends (Err ending) row rest new line grown within stopped before after = (stopped, left_as_it_is ending line)
