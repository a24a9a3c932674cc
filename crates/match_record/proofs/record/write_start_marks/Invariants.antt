use Rattle.std.proofs.Common.{map, take}
use Rattle.match_record.specs.Internal.Written.{HasBegun}
use Rattle.record_reading.specs.RecordTree.{mark_tree}
use Rattle.match_record.proofs.record.write_start_marks.Given as goal

abbrev pub invariant-loop-role : goal.invariant-loop-role
invariant-loop-role g l = HasBegun l.fn.out l.out (map mark_tree (take l.role l.held.value.start_marks))
