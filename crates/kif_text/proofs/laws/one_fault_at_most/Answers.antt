use Rattle.kif_text.proofs.OneFault.{one_fault_at_most}
use Rattle.kif_text.proofs.laws.one_fault_at_most.Goals as goal

pub returns : goal.returns
returns c = one_fault_at_most
