use Rattle.match_book.proofs.LawfulTurns.{one_more_turn}
use Rattle.match_book.proofs.laws.one_more_turn.Goals as goal

pub returns : goal.returns
returns g c = λ game. one_more_turn (g.G.Game.rules game)
