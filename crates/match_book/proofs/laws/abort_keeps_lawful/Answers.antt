use Rattle.match_book.proofs.AnswerLaws.{abort_keeps_lawful}
use Rattle.match_book.proofs.laws.abort_keeps_lawful.Goals as goal

pub returns : goal.returns
returns g c = λ game. abort_keeps_lawful (g.G.Game.rules game) (g.met.G.Game.laws game)
