use Rattle.match_plans.proofs.Words.{address-known}
use Rattle.match_plans.proofs.addresses.is_ipv6.Goals as goal

pub returns : goal.returns
returns c = address-known c.args.text.now c.parse.result c.is_ok.result c.parse.ensures.value c.is_ok.ensures.value
