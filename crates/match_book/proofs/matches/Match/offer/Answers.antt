use Rattle.desk_calls.specs.Answers.{answer_lent}
use Rattle.match_book.specs.MatchValue.{state_after}
use Rattle.match_book.proofs.Judgements.{judgement-judged}
use Rattle.match_book.proofs.matches.Match.offer.Goals as goal

pub take_open_answer-requires-clause-judged : goal.take_open_answer-requires-clause-judged
take_open_answer-requires-clause-judged g c =
    let rules = g.G.Game.rules c.args.self.now.game in
    judgement-judged rules c.readings_are_folded.ensures (state_after rules c.args.self.now.value.turns) c.args.role (answer_lent c.args.answer.now) c.in_ok-judged-in-Playing.judged c.in_ok-judged-in-Playing.ensures
