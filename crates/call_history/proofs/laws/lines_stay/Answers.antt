use Rattle.call_history.proofs.DeskLines.{line_of_same, ends_of_ports}
use Rattle.call_history.proofs.laws.lines_stay.Goals as goal

pub returns-clause-lines : goal.returns-clause-lines
returns-clause-lines g c = λ before after line line'. line_of_same before after line line'

pub returns-clause-ends : goal.returns-clause-ends
returns-clause-ends g c = λ before after ends. ends_of_ports before after ends
