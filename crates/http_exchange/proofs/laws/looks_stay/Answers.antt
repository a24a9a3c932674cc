use Rattle.http_exchange.proofs.Stays as proved
use Rattle.http_exchange.proofs.laws.looks_stay.Goals as goal

pub returns : goal.returns
returns c = proved.looks_stay
