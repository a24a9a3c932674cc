use Rattle.std.proofs.lemmas.Bool.{MatchBool-at_false}
use Rattle.match_plans.proofs.Words.{host-in-brackets}
use Rattle.match_plans.proofs.addresses.plain_host.Goals as goal

pub returns-else-is_ipv6 : goal.returns-else-is_ipv6
returns-else-is_ipv6 c = host-in-brackets c.args.host.now c.in-Some.inner.now c.in-Some.ensures (MatchBool-at_false _ _ c.if-is_ipv6.false c.is_ipv6.ensures)
