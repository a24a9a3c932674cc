use Rattle.std.proofs.Common.{◌≡◌, length, rules}
use Rattle.numbered_rules.proofs.Searching.{opened}
use Rattle.numbered_rules.proofs.rank.Search.open.Goals as goal

pub returns-clause-search : goal.returns-clause-search
returns-clause-search c =
    let e : c.len-place.result ≡ length c.args.self.now.path.items = search rules in
    rw (c.in_ok-push.ensures.items, e)
    (opened c.args.needs.now c.args.self.now.marks.items c.args.self.now.next.items c.args.self.now.path.items c.args.self.now.order.items c.args.atom c.requires.search c.requires.within c.requires.fresh c.requires.linked)
