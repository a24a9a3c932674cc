use Rattle.match_book.proofs.StruckTurns.{strikes-none, strikes-push, strikes-few}
use Rattle.match_book.proofs.laws.strikes_follow_turns.Goals as goal

pub returns-clause-begin : goal.returns-clause-begin
returns-clause-begin g c = λ roles strikes. strikes-none roles strikes

pub returns-clause-more : goal.returns-clause-more
returns-clause-more g c = λ roles strikes turns t kept after. strikes-push roles strikes turns t kept after

pub returns-clause-few : goal.returns-clause-few
returns-clause-few g c = λ roles strikes turns kept. strikes-few roles strikes turns kept
