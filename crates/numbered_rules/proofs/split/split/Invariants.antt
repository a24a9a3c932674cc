use Rattle.std.proofs.Common.{◌≡◌, not, filter, length, ◌++◌}
use Rattle.std.specs.Vec.Iter.{into_iter_items, into_iter_len}
use Rattle.numbered_rules.specs.Numbered.{bit}
use Rattle.numbered_rules.proofs.split.split.Given as goal

abbrev pub invariant-loop-rule : goal.invariant-loop-rule
invariant-loop-rule l = record {
  can_next : goal.iterator-loop-rule.can_next l.rule-iterator;
  is_finite : goal.iterator-loop-rule.is_finite l.rule-iterator;
  len : into_iter_len l.rule-iterator ≡ length (into_iter_items l.rule-iterator);
  rest : l.rest.items ++ filter (λ r. not (bit l.row r.head)) (into_iter_items l.rule-iterator) ≡ filter (λ r. not (bit l.row r.head)) l.fn.rules.items;
  turn : l.turn.items ++ filter (λ r. bit l.row r.head) (into_iter_items l.rule-iterator) ≡ filter (λ r. bit l.row r.head) l.fn.rules.items;
}
