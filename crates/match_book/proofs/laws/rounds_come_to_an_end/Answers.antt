use Rattle.match_book.proofs.Progress.{rounds_end}
use Rattle.match_book.proofs.laws.rounds_come_to_an_end.Goals as goal

pub returns : goal.returns
returns g c = λ game. rounds_end (g.G.Game.rules game) (g.met.G.Game.laws game) c.readings_are_folded.ensures
