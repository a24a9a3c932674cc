use Rattle.std.proofs.Common.{◌≡◌, map, take}
use Rattle.serde_json.specs.View.{view}
use Rattle.record_reading.specs.RecordTree.{mark_tree}
use Rattle.record_reading.proofs.reading.marks_in.Given as goal

abbrev pub invariant-loop-member : goal.invariant-loop-member
invariant-loop-member l = map view (take l.member-index l.members) ≡ map mark_tree l.items.items
