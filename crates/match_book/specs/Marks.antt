-- The marks that a match stores for answers outside of play.
use Rattle.std.specs.Prelude.{List, ℕ, [], codes}
use Rattle.desk_calls.specs.declared.answer.Answer.{Answer}
use Rattle.desk_calls.specs.declared.answer.Answer.TheVariants.{Text, Silent, Broken}
use Rattle.match_book.specs.declared.answer.Mark.{Mark}
use Rattle.match_book.specs.declared.answer.Mark.TheVariants.{Clear, TimeOut, ConnectionError}

-- no answer came in time
abbrev pub time_out_text : List ℕ
time_out_text = codes "TO"

-- no answer came: the connection failed
abbrev pub connection_error_text : List ℕ
connection_error_text = codes "CE"

abbrev pub mark_of : Answer → Mark
mark_of (Text t) = Clear
mark_of Silent = TimeOut
mark_of Broken = ConnectionError

abbrev pub mark_text : Mark → List ℕ
mark_text Clear = []
mark_text TimeOut = time_out_text
mark_text ConnectionError = connection_error_text
