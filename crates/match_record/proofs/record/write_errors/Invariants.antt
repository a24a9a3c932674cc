use Rattle.std.proofs.Common.{map, take}
use Rattle.match_record.specs.Internal.Written.{HasBegun}
use Rattle.record_reading.specs.RecordTree.{texts_tree}
use Rattle.match_record.proofs.record.write_errors.Given as goal

abbrev pub invariant-loop-turn : goal.invariant-loop-turn
invariant-loop-turn g l = HasBegun l.fn.out l.out (map (λ t. texts_tree t.errors) (take l.turn l.held.value.turns))
