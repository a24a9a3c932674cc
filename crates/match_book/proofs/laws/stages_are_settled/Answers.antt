use Rattle.match_book.proofs.Stages.{starting_means, playing_means, stopping_means}
use Rattle.match_book.proofs.laws.stages_are_settled.Goals as goal

pub returns-clause-starting : goal.returns-clause-starting
returns-clause-starting g c = λ game. starting_means (g.G.Game.rules game)

pub returns-clause-playing : goal.returns-clause-playing
returns-clause-playing g c = λ game. playing_means (g.G.Game.rules game)

pub returns-clause-stopping : goal.returns-clause-stopping
returns-clause-stopping g c = λ game. stopping_means (g.G.Game.rules game)
