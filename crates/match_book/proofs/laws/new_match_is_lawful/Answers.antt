use Rattle.match_book.proofs.AnswerLaws.{new_match_is_lawful}
use Rattle.match_book.proofs.laws.new_match_is_lawful.Goals as goal

pub returns : goal.returns
returns g c = λ game. new_match_is_lawful (g.G.Game.rules game) (g.met.G.Game.laws game)
