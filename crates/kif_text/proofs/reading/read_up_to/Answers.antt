use Rattle.std.proofs.Common.{arith}
use Rattle.kif_text.proofs.Clauses.{all_spelled, all_fault, all_refused}
use Rattle.kif_text.proofs.reading.read_up_to.Goals as goal

pub returns-clause-spelled : goal.returns-clause-spelled
returns-clause-spelled c = all_spelled c.args.limit c.args.text.now c.read.result (omega arith) c.read.ensures

pub returns-clause-fault : goal.returns-clause-fault
returns-clause-fault c = all_fault c.args.limit c.args.text.now c.read.result (omega arith) c.read.ensures

pub returns-clause-refused : goal.returns-clause-refused
returns-clause-refused c = all_refused c.args.limit c.args.text.now c.read.result (all_fault c.args.limit c.args.text.now c.read.result (omega arith) c.read.ensures)
