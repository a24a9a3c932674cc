use Rattle.http_exchange.proofs.WrittenTexts as proved
use Rattle.http_exchange.proofs.laws.request_is_carried.Goals as goal

pub returns : goal.returns
returns c = proved.request_is_carried
