use Rattle.std.proofs.Common.{◌≡◌, ◌-◌, ◌<◌, length, get_or, slice_index, refl, rules, sym, ap, arith}
use Rattle.numbered_rules.specs.Order.{needs_at}
use Rattle.numbered_rules.proofs.Searching.{needs-read, mark-read, cycle, last-read, linked-last}
use Rattle.numbered_rules.proofs.rank.Search.step.Goals as goal

pub finish-requires-clause-placed : goal.finish-requires-clause-placed
finish-requires-clause-placed c =
    let path = c.args.self.now.path.items in
    let size : c.len.result ≡ length path = search rules in
    let e = last-read path c.advance-place.new.self.path.items c.len.result c.index-atom.result.now c.requires.some size c.advance-place.ensures.path c.index-atom.ensures in
    let f = last-read path path c.len.result c.index-atom.result.now c.requires.some size refl c.index-atom.ensures in
    let inside = c.requires.search.within (length path - 1) (omega (arith, c.requires.some)) in
    let w = needs-read c.args.needs.now c.index-atom.result.now c.index-needs-atom.result c.as_slice-wants.result.now (omega (arith, f, inside)) c.index-needs-atom.is c.as_slice-wants.ensures in
    let q = ap length w in
    rw (e, c.advance-place.ensures.marks) (λ i lt. c.advance-place.ensures.passed i (omega (arith, q, lt, c.if-place-wants.true)))

pub returns-in-Open-clause-cycle : goal.returns-in-Open-clause-cycle
returns-in-Open-clause-cycle c =
    λ _ acyclic.
    let path = c.args.self.now.path.items in
    let atom = c.index-atom.result.now in
    let wants = c.as_slice-wants.result.now in
    let d = get_or wants c.advance-place.result 0 in
    let size : c.len.result ≡ length path = search rules in
    let e = last-read path c.advance-place.new.self.path.items c.len.result atom c.requires.some size c.advance-place.ensures.path c.index-atom.ensures in
    let f = last-read path path c.len.result atom c.requires.some size refl c.index-atom.ensures in
    let inside = c.requires.search.within (length path - 1) (omega (arith, c.requires.some)) in
    let here : atom < length c.args.needs.now = omega (arith, f, inside) in
    let w = needs-read c.args.needs.now atom c.index-needs-atom.result wants here c.index-needs-atom.is c.as_slice-wants.ensures in
    let q = ap length w in
    let lt : c.advance-place.result < length (needs_at c.args.needs.now atom) = omega (arith, q, c.advance-place.ensures.within, c.if-place-wants.false) in
    let same : slice_index (needs_at c.args.needs.now atom) c.advance-place.result ≡ d = ap (λ ns. slice_index ns c.advance-place.result) (sym w) in
    let s = c.advance-place.ensures.search in
    let in_graph = s.graph atom c.advance-place.result here lt in
    let is = mark-read c.advance-place.new.self.marks.items d c.index.result.now _ (omega (arith, same, in_graph, s.marks_wide)) c.index.ensures c.in-Open.is in
    cycle c.args.needs.now c.advance-place.new.self.marks.items c.advance-place.new.self.next.items c.advance-place.new.self.path.items c.advance-place.new.self.order.items d c.in-Open.field-0 s
    (linked-last c.args.needs.now c.advance-place.new.self.path.items atom c.advance-place.result d e lt same) is acyclic
