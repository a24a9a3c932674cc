use Rattle.numbered_rules.specs.Internal.Search.{IsSearching, AreOnlyOld, work}
use Rattle.numbered_rules.proofs.rank.Search.explore.Given as goal

abbrev pub invariant-loop-self : goal.invariant-loop-self
invariant-loop-self l = record {
  search : IsSearching l.needs l.self.marks.items l.self.next.items l.self.path.items l.self.order.items;
  met : AreOnlyOld l.initial.self.marks.items l.self.marks.items;
}

abbrev pub decreases-loop-self : goal.decreases-loop-self
decreases-loop-self l = work l.self.marks.items l.self.path.items
