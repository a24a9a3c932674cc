use Rattle.http_exchange.proofs.Found as proved
use Rattle.http_exchange.proofs.laws.carried_is_found.Goals as goal

pub returns : goal.returns
returns c = proved.carried_is_found
