use Rattle.match_book.proofs.AnswerLaws.{taken_for_the_round}
use Rattle.match_book.proofs.laws.taken_for_the_round.Goals as goal

pub returns : goal.returns
returns g c = λ game. taken_for_the_round (g.G.Game.rules game)
