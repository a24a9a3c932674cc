use Rattle.match_book.proofs.AnswerLaws.{answers_out_of_play}
use Rattle.match_book.proofs.laws.answers_out_of_play.Goals as goal

pub returns : goal.returns
returns g c = λ game. answers_out_of_play (g.G.Game.rules game)
