use Rattle.std.proofs.Common.{subst}
use Rattle.std.proofs.lemmas.List.{take_all}
use Rattle.serde_json.specs.Data.{object}
use Rattle.match_record.specs.Internal.Written.{IsWritten}
use Rattle.record_reading.specs.RecordParts.{parts_of}
use Rattle.record_reading.specs.RecordTree.{keys, members_at, record_tree}
use Rattle.match_record.proofs.WrittenRecords.{one_added, members_next, object_written}
use Rattle.match_record.proofs.record.write_record.Goals as goal

pub loop-key-init : goal.loop-key-init
loop-key-init g c = one_added c.in_ok-begin_object.ensures

pub loop-key-preserved : goal.loop-key-preserved
loop-key-preserved g c = members_next c.loop-key.key-index _ (parts_of (g.G.Game.rules c.args.game.now) c.args.held.now.value) c.text.result.now c.loop-key-test.true c.text.ensures c.loop-key.invariant (one_added c.in_ok-key.ensures) c.in_ok-write_value_at.ensures.written

pub returns-clause-written : goal.returns-clause-written
unfolding record_tree
returns-clause-written g c =
    let p = parts_of (g.G.Game.rules c.args.game.now) c.args.held.now.value in
    subst (λ ks. IsWritten c.args.out.now c.end_object.new.self (object (members_at ks p))) (take_all c.loop-key.key-index keys c.loop-key-test.false)
    (object_written _ p c.loop-key.invariant (one_added c.in_ok-end_object.ensures))
