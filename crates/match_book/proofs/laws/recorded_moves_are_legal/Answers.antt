use Rattle.match_book.proofs.AnswerLaws.{recorded_moves_are_legal}
use Rattle.match_book.proofs.laws.recorded_moves_are_legal.Goals as goal

pub returns : goal.returns
returns g c = λ game. recorded_moves_are_legal (g.G.Game.rules game)
