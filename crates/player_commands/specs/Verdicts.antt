-- The verdict on an answer.
use Rattle.std.specs.Prelude.{◌==◌, ℕ, Bool, true, false, List, Option, Some, None, length, bytes_eq, codes}
use Rattle.match_book.specs.Judgement.{unreadable_text}
use Rattle.player_commands.specs.declared.watched.AnswerKind.{AnswerKind}
use Rattle.player_commands.specs.declared.watched.AnswerKind.TheVariants.{Text, Silence, Break}
use Rattle.player_commands.specs.declared.table.Verdict.{Verdict}
use Rattle.player_commands.specs.declared.table.Verdict.TheVariants.{Taken, Legal, Illegal, NoMove, Late, Broken, Dropped}

-- the verdict, from two facts: whether the error is empty, and whether it says that the text is not an expression
abbrev pub judged_as : Bool → Bool → Verdict
judged_as true b = Legal
judged_as false true = NoMove
judged_as false false = Illegal

-- the verdict on an answer to PLAY, given the error of its turn, or None if the turn was not recorded
abbrev pub judged : Option (List ℕ) → Verdict
judged None = Dropped
judged (Some error) = judged_as (length error == 0) (bytes_eq error unreadable_text)

abbrev pub verdict_of : Bool → AnswerKind → Option (List ℕ) → Verdict
verdict_of is_play Silence error = Late
verdict_of is_play Break error = Broken
verdict_of false Text error = Taken
verdict_of true Text error = judged error

abbrev pub is_good : Verdict → Bool
is_good Taken = true
is_good Legal = true
is_good Dropped = true
is_good verdict = false

-- the message asked for a move, and the move that was played is not the answer
abbrev pub is_refused : Verdict → Bool
is_refused Illegal = true
is_refused NoMove = true
is_refused verdict = false

abbrev pub verdict_text : Verdict → List ℕ
verdict_text Taken = codes "taken"
verdict_text Legal = codes "legal"
verdict_text Illegal = codes "not legal"
verdict_text NoMove = codes "no move"
verdict_text Late = codes "none in time"
verdict_text Broken = codes "broken"
verdict_text Dropped = codes "dropped"
