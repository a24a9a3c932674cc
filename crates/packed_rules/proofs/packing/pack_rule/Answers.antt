use Rattle.std.proofs.Common.{◌+◌, map, drop}
use Rattle.ground_rules.specs.Numbered.{view}
use Rattle.packed_rules.specs.Internal.PackedPass.{IsTestOf}
use Rattle.packed_rules.proofs.PackedPasses.{says-next, test-more, move-more, other-next}
use Rattle.packed_rules.proofs.packing.pack_rule.Goals as goal
use Rattle.packed_rules.proofs.packing.pack_rule.Goals.{in-Some+in_ok-push-in-Some, in-None+in-Some-move_test_of+in_ok-push-in-Some-move_test_of, in-None+in-None-move_test_of+in_ok-copy-in-None-move_test_of+in_ok-push-in-None-move_test_of}

pub loop-literal-preserved : goal.loop-literal-preserved
loop-literal-preserved c =
    let items = c.deref-literal-items.result.now in
    let i = c.loop-literal.literal-index in
    let item = c.literal-item.result in
    let n = c.args.terms in
    let moves = c.loop-literal.moves.items in
    let tests = c.loop-literal.tests.items in
    let others = c.loop-literal.others.items in
    let rest = map view (drop (i + 1) items) in
    let all = map view items in
    let says = says-next n moves tests (map view others) items i item all c.loop-literal-test.true c.literal-item.is c.loop-literal.invariant in
    elim c.match-test_of.branch [
      | in-Some+in_ok-push-in-Some w ↦
          let is : IsTestOf n (view item) w.in-Some.test = rw w.in-Some.is at c.test_of.ensures in
          rw (w.moves-is, w.tests-is, w.others-is, w.in_ok-push-in-Some.ensures.items) (test-more n moves tests (map view others) rest all (view item) w.in-Some.test says is)
      | in-None+in-Some-move_test_of+in_ok-push-in-Some-move_test_of w ↦
          let is = w.in-Some-move_test_of.ensures n in
          rw (w.moves-is, w.tests-is, w.others-is, w.in_ok-push-in-Some-move_test_of.ensures.items) (move-more n moves tests (map view others) rest all (view item) w.in-Some-move_test_of.test says is)
      | in-None+in-None-move_test_of+in_ok-copy-in-None-move_test_of+in_ok-push-in-None-move_test_of w ↦
          rw (w.moves-is, w.tests-is, w.others-is, w.in_ok-push-in-None-move_test_of.ensures.items) (other-next n moves tests others rest all item w.in_ok-copy-in-None-move_test_of.field-0 w.in_ok-copy-in-None-move_test_of.ensures says)
    ]
