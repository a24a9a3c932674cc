use Rattle.std.proofs.Common.{ℕ, ◌<◌, ◌≡◌, ◌≢◌, length}
use Rattle.numbered_rules.specs.Internal.Search.{IsSearching, mark}
use Rattle.numbered_rules.specs.declared.rank.Mark.TheVariants.{New}
use Rattle.numbered_rules.proofs.rank.rank.Given as goal

abbrev pub invariant-loop-start : goal.invariant-loop-start
invariant-loop-start l = record {
  search : IsSearching l.needs l.search.marks.items l.search.next.items l.search.path.items l.search.order.items;
  over : length l.search.path.items ≡ 0;
  met : (n : ℕ) → n < l.start → mark l.search.marks.items n ≢ New;
}
