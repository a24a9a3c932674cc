use Rattle.std.proofs.Common.{arith}
use Rattle.kif_text.proofs.Clauses.{one_spelled, one_fault, one_found, one_refused}
use Rattle.kif_text.proofs.Readings.{reading_past}
use Rattle.kif_text.proofs.reading.read_one.Goals as goal

pub returns-clause-spelled : goal.returns-clause-spelled
returns-clause-spelled c = one_spelled c.args.text.now c.read_single.result (omega arith) c.read_single.ensures

pub returns-clause-fault : goal.returns-clause-fault
returns-clause-fault c = one_fault c.args.text.now c.read_single.result (omega arith) c.read_single.ensures

pub returns-clause-found : goal.returns-clause-found
returns-clause-found c = one_found c.args.text.now c.read_single.result (omega arith) c.read_single.ensures

pub returns-clause-refused : goal.returns-clause-refused
returns-clause-refused c = one_refused c.args.text.now c.read_single.result (omega arith) c.read_single.ensures

pub returns-then-text-gt-MAX_LENGTH-clause-refused : goal.returns-then-text-gt-MAX_LENGTH-clause-refused
returns-then-text-gt-MAX_LENGTH-clause-refused c wanted = reading_past c.args.text.now c.if-text-gt-MAX_LENGTH.true
