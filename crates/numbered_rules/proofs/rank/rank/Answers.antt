use Rattle.std.proofs.Common.{◌≡◌, length, ap, arith}
use Rattle.numbered_rules.proofs.Searching.{met-placed, ranked}
use Rattle.numbered_rules.proofs.rank.rank.Goals as goal

pub places_of-requires : goal.places_of-requires
places_of-requires c =
    let s = c.loop-start.search in
    let i = c.loop-start.invariant in
    let e : c.deref.result.now ≡ s.marks.items = c.deref.ensures.value in
    let size = ap length e in
    rw e (λ n lt. met-placed c.args.needs.now s.marks.items s.next.items s.path.items s.order.items n i.search i.over (i.met n (omega (arith, lt, i.search.marks_wide))))

pub returns-clause-found : goal.returns-clause-found
returns-clause-found c =
    let s = c.loop-start.search in
    let made = rw c.deref.ensures.value at c.in_ok-places.ensures in
    ranked c.args.needs.now s.marks.items s.next.items s.path.items s.order.items c.in_ok-places.places.items c.loop-start.invariant.search made.0 made.1
