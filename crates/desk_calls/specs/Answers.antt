-- Answers of players.
use Rattle.desk_calls.specs.declared.answer.Answer.{Answer}
use Rattle.desk_calls.specs.declared.answer.Answer.TheVariants.{Text, Silent, Broken}
use Rattle.desk_calls.specs.declared.answer.LentAnswer.{LentAnswer}
use Rattle.desk_calls.specs.declared.answer.LentAnswer.TheVariants.{Text as LentText, Silent as LentSilent, Broken as LentBroken}

-- the answer that is borrowed
abbrev pub answer_lent : LentAnswer → Answer
answer_lent (LentText text) = Text text.now
answer_lent LentSilent = Silent
answer_lent LentBroken = Broken
