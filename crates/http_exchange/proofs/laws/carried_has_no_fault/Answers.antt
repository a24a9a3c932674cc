use Rattle.http_exchange.proofs.Found as proved
use Rattle.http_exchange.proofs.laws.carried_has_no_fault.Goals as goal

pub returns : goal.returns
returns g c = proved.carried_has_no_fault _
