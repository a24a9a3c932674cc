use Rattle.std.proofs.Common.{◌<◌, ◌≤◌, arith, length, subst}
use Rattle.match_record.specs.Internal.Written.{IsWritten}
use Rattle.record_reading.specs.RecordTree.{list_tree, texts_tree}
use Rattle.match_record.proofs.RecordLists.{map_twice}
use Rattle.match_record.proofs.WrittenRecords.{one_added, turn_next, all_written}
use Rattle.match_record.proofs.record.write_errors.Goals as goal

pub loop-turn-init : goal.loop-turn-init
loop-turn-init g c = one_added c.in_ok-begin_array.ensures

pub loop-turn-preserved : goal.loop-turn-preserved
loop-turn-preserved g c =
    let turns = c.args.held.now.value.turns in
    let within : c.loop-turn.turn < length turns = omega (arith, c.loop-turn-test.true, c.turns-turn-end.ensures) in
    turn_next c.args.out.now c.loop-turn.out c.write_errors_at.new.out (λ t. texts_tree t.errors) turns c.loop-turn.turn within c.loop-turn.invariant c.in_ok-write_errors_at.ensures.written

pub returns-clause-written : goal.returns-clause-written
returns-clause-written g c =
    let turns = c.args.held.now.value.turns in
    let past : length turns ≤ c.loop-turn.turn = omega (arith, c.loop-turn-test.false, c.turns-turn-end.ensures) in
    subst (λ members. IsWritten c.args.out.now c.end_array.new.self (list_tree members)) (map_twice texts_tree (λ t. t.errors) turns)
    (all_written (λ t. texts_tree t.errors) turns c.loop-turn.turn past c.loop-turn.invariant (one_added c.in_ok-end_array.ensures))
