use Rattle.std.proofs.Common.{rules, slice_index}
use Rattle.std.proofs.lemmas.List.Sorted.{IsNonDecreasingBy-from_sort_by_key}
use Rattle.numbered_rules.proofs.sorting.sort_by_rank.Goals as goal

pub returns-clause-sorted : goal.returns-clause-sorted
returns-clause-sorted c = IsNonDecreasingBy-from_sort_by_key (λ r. slice_index c.args.places.now r.head) _ c.in_ok-sort_by_key.ensures.sorted (λ a r q k. search rules)
