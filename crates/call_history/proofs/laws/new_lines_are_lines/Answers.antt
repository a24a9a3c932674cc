use Rattle.call_history.proofs.DeskLines.{line_of_new, new_of_same}
use Rattle.call_history.proofs.laws.new_lines_are_lines.Goals as goal

pub returns-clause-lines : goal.returns-clause-lines
returns-clause-lines g c = λ ports number line. line_of_new ports number line

pub returns-clause-stay : goal.returns-clause-stay
returns-clause-stay g c = λ before after number line. new_of_same before after number line
