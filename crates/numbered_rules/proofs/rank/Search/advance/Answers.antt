use Rattle.std.proofs.Common.{◌≡◌, slice_index, arith}
use Rattle.numbered_rules.specs.Order.{needs_at}
use Rattle.numbered_rules.proofs.Searching.{needs-read, passed-more, advanced, number-read}
use Rattle.numbered_rules.proofs.rank.Search.advance.Goals as goal

pub returns-clause-passed : goal.returns-clause-passed
returns-clause-passed c =
    let e : c.as_slice.result.now ≡ needs_at c.args.needs.now c.args.atom = needs-read c.args.needs.now c.args.atom c.index-needs-atom.result _ c.requires.within c.index-needs-atom.is c.as_slice.ensures in
    let f : c.index.result.now ≡ slice_index c.args.self.now.next.items c.args.atom = number-read c.args.self.now.next.items c.args.atom _ (omega (arith, c.requires.within, c.requires.search.next_wide)) c.index.ensures in
    passed-more c.args.self.now.marks.items (needs_at c.args.needs.now c.args.atom) (slice_index c.args.self.now.next.items c.args.atom) c.skip-place.result (c.requires.search.passed c.args.atom) (rw (e, f) at c.skip-place.ensures.passed)

pub returns-clause-stop : goal.returns-clause-stop
returns-clause-stop c =
    let e : c.as_slice.result.now ≡ needs_at c.args.needs.now c.args.atom = needs-read c.args.needs.now c.args.atom c.index-needs-atom.result _ c.requires.within c.index-needs-atom.is c.as_slice.ensures in
    rw e at c.skip-place.ensures.stop

pub returns-clause-search : goal.returns-clause-search
returns-clause-search c =
    let e : c.as_slice.result.now ≡ needs_at c.args.needs.now c.args.atom = needs-read c.args.needs.now c.args.atom c.index-needs-atom.result _ c.requires.within c.index-needs-atom.is c.as_slice.ensures in
    let f : c.index.result.now ≡ slice_index c.args.self.now.next.items c.args.atom = number-read c.args.self.now.next.items c.args.atom _ (omega (arith, c.requires.within, c.requires.search.next_wide)) c.index.ensures in
    advanced c.args.needs.now c.args.self.now.marks.items c.args.self.now.next.items c.args.self.now.path.items c.args.self.now.order.items c.args.atom c.skip-place.result c.requires.search c.requires.within (rw e at c.skip-place.ensures.within)
    (passed-more c.args.self.now.marks.items (needs_at c.args.needs.now c.args.atom) (slice_index c.args.self.now.next.items c.args.atom) c.skip-place.result (c.requires.search.passed c.args.atom) (rw (e, f) at c.skip-place.ensures.passed))
