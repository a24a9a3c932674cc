use Rattle.http_exchange.proofs.WrittenTexts as proved
use Rattle.http_exchange.proofs.laws.reply_is_carried.Goals as goal

pub returns : goal.returns
returns c = proved.reply_is_carried
