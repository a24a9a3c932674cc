use Rattle.numbered_rules.proofs.Searching.{not-placed}
use Rattle.numbered_rules.proofs.rank.places_of.Goals as goal

pub unreachable-requires : goal.unreachable-requires
unreachable-requires c =
    let p = c.requires c.loop-seen.seen-index c.loop-seen-test.true in
    not-placed _ c.in-New.is p.0 p.1
