use Rattle.match_book.proofs.Stages.{begun_rounds_are_open}
use Rattle.match_book.proofs.laws.begun_rounds_are_open.Goals as goal

pub returns : goal.returns
returns g c = λ game. begun_rounds_are_open (g.G.Game.rules game)
