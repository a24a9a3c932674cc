use Rattle.whole_streams.proofs.LinesTaken.{last_is_taken, next_is_taken}
use Rattle.whole_streams.proofs.laws.lines_are_taken.Goals as goal

pub returns-clause-next : goal.returns-clause-next
returns-clause-next c = next_is_taken

pub returns-clause-last : goal.returns-clause-last
returns-clause-last c = last_is_taken
