use Rattle.match_book.proofs.AnswerLaws.{answers_keep_lawful}
use Rattle.match_book.proofs.laws.answers_keep_lawful.Goals as goal

pub returns : goal.returns
returns g c = λ game. answers_keep_lawful (g.G.Game.rules game) (g.met.G.Game.laws game) c.readings_are_folded.ensures
