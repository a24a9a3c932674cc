use Rattle.match_book.proofs.AnswerLaws.{answers_in_play}
use Rattle.match_book.proofs.laws.answers_in_play.Goals as goal

pub returns : goal.returns
returns g c = λ game. answers_in_play (g.G.Game.rules game) (g.met.G.Game.laws game) c.readings_are_folded.ensures
