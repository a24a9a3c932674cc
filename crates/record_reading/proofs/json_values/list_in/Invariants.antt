use Rattle.std.proofs.Common.{◌≡◌, ◌++◌, map, length}
use Rattle.std.specs.Vec.Iter.{into_iter_items, into_iter_len}
use Rattle.serde_json.specs.View.{view}
use Rattle.record_reading.proofs.json_values.list_in.Given as goal

abbrev pub invariant-loop-member : goal.invariant-loop-member
invariant-loop-member g l = record {
  len : into_iter_len l.member-iterator ≡ length (into_iter_items l.member-iterator);
  rest : map g.T.FromJson.written l.items.items ++ map view (into_iter_items l.member-iterator) ≡ map view (into_iter_items l.initial.member-iterator);
}
