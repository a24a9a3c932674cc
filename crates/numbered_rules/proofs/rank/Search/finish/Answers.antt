use Rattle.std.proofs.Common.{◌≡◌, ◌-◌, length, slice_index, rules, arith}
use Rattle.numbered_rules.proofs.Searching.{finished, work-finished, last-open}
use Rattle.numbered_rules.proofs.rank.Search.finish.Goals as goal

pub returns-in_ok-push-clause-search : goal.returns-in_ok-push-clause-search
returns-in_ok-push-clause-search c =
    let s = rw c.in-Some.ensures.items at c.requires.search in
    let v = c.in-Some.ensures.value 0 (omega arith) in
    let e : slice_index c.args.self.now.path.items (length c.args.self.now.path.items - 1) ≡ c.in-Some.atom = search rules in
    let ready = rw e at c.requires.placed in
    let f : c.len-place.result ≡ length c.args.self.now.order.items = search rules in
    rw (c.in_ok-push.ensures.items, f)
    (finished c.args.needs.now c.args.self.now.marks.items c.args.self.now.next.items c.pop.new.self.items c.args.self.now.order.items c.in-Some.atom s ready)

pub returns-in_ok-push-clause-work : goal.returns-in_ok-push-clause-work
returns-in_ok-push-clause-work c =
    let s = rw c.in-Some.ensures.items at c.requires.search in
    let o = last-open c.args.needs.now c.args.self.now.marks.items c.args.self.now.next.items c.pop.new.self.items c.args.self.now.order.items c.in-Some.atom s in
    rw c.in-Some.ensures.items
    (work-finished c.args.self.now.marks.items c.pop.new.self.items c.in-Some.atom c.len-place.result (length c.pop.new.self.items) o.1 o.0)
