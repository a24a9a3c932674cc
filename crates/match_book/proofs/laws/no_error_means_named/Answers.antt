use Rattle.match_book.proofs.AnswerLaws.{no_error_means_named}
use Rattle.match_book.proofs.laws.no_error_means_named.Goals as goal

pub returns : goal.returns
returns g c = λ game. no_error_means_named (g.G.Game.rules game)
