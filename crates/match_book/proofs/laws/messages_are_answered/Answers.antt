use Rattle.match_book.proofs.AnsweredMessages.{none_is_answered, owed_is_answered, others_are_untouched, all_are_answered}
use Rattle.match_book.proofs.laws.messages_are_answered.Goals as goal

pub returns-clause-begin : goal.returns-clause-begin
returns-clause-begin g c = λ game. none_is_answered (g.G.Game.rules game)

pub returns-clause-own : goal.returns-clause-own
returns-clause-own g c = λ game. owed_is_answered (g.G.Game.rules game) (g.met.G.Game.laws game) c.readings_are_folded.ensures

pub returns-clause-others : goal.returns-clause-others
returns-clause-others g c = λ game. others_are_untouched (g.G.Game.rules game) (g.met.G.Game.laws game) c.readings_are_folded.ensures

pub returns-clause-over : goal.returns-clause-over
returns-clause-over g c = λ game. all_are_answered (g.G.Game.rules game)
