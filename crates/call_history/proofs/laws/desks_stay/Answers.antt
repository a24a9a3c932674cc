use Rattle.call_history.proofs.DeskLines.{same_ports_refl, same_ports_trans}
use Rattle.call_history.proofs.laws.desks_stay.Goals as goal

pub returns-clause-same : goal.returns-clause-same
returns-clause-same g c = λ ports. same_ports_refl ports

pub returns-clause-through : goal.returns-clause-through
returns-clause-through g c = λ first then last. same_ports_trans first then last
