use Rattle.http_exchange.proofs.Found as proved
use Rattle.http_exchange.proofs.laws.carries_one_at_most.Goals as goal

pub returns : goal.returns
returns c = proved.carries_one_at_most
