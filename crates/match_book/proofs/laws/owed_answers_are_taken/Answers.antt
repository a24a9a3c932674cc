use Rattle.match_book.proofs.AnswerLaws.{owed_answers_are_taken}
use Rattle.match_book.proofs.laws.owed_answers_are_taken.Goals as goal

pub returns : goal.returns
returns g c = λ game. owed_answers_are_taken (g.G.Game.rules game)
