use Rattle.http_exchange.proofs.Found as proved
use Rattle.http_exchange.proofs.laws.found_is_carried.Goals as goal

pub returns : goal.returns
returns c = proved.found_is_carried
