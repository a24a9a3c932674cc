use Rattle.std.proofs.Common.{arith}
use Rattle.std.proofs.lemmas.Result.{err_from_is_err_and}
use Rattle.role_workers.proofs.Workers.{goes-start, goes-rests, goes-hands_over, attends-over, stops-asking, stops-handing, stops-out_of_tries}
use Rattle.role_workers.proofs.attending.attend_shared.Goals as goal
use Rattle.role_workers.proofs.attending.attend_shared.Goals.{in-Owe+in_ok-hand_over-in-Owe, in-Hold}

pub returns-in_err-round : goal.returns-in_err-round
returns-in_err-round g c =
    let p = err_from_is_err_and c.from_residual.result c.from_residual.ensures.1 in
    rw (p.1, p.2) (record {
      line = g.met.W.Wire.same_line_trans _ _ _ c.loop.invariant.line c.next_due.ensures.line;
      ended = stops-asking c.args.brief.now c.args.role c.loop.counter c.args.tries _ _ _ _ _ _ _ _ c.loop.invariant.goes c.loop-test.true c.in_err-round.ensures.fault;
    })

pub returns-in_err-hand_over-in-Owe : goal.returns-in_err-hand_over-in-Owe
returns-in_err-hand_over-in-Owe g c =
    let trans = g.met.W.Wire.same_line_trans in
    let p = err_from_is_err_and c.from_residual-in_err-hand_over-in-Owe.result c.from_residual-in_err-hand_over-in-Owe.ensures.1 in
    rw (p.1, p.2) (record {
      line = trans _ _ _ (trans _ _ _ c.loop.invariant.line c.next_due.ensures.line) c.hand_over.ensures.line;
      ended = stops-handing c.args.brief.now c.args.role c.loop.counter c.args.tries c.in-Owe.round c.in-Owe.owed _ _ _ _ _ _ _ _ _ _
          c.loop.invariant.goes c.loop-test.true c.in-Owe.is c.in_ok-round.ensures.call c.in_ok-round.ensures.reply c.in_err-hand_over-in-Owe.ensures.fault;
    })

pub returns-in-Over : goal.returns-in-Over
returns-in-Over g c = record {
  line = g.met.W.Wire.same_line_trans _ _ _ c.loop.invariant.line c.next_due.ensures.line;
  ended = attends-over c.args.brief.now c.args.role c.loop.counter c.args.tries _ _ _ _ _ _ _ _ c.loop.invariant.goes c.loop-test.true c.in-Over.is c.in_ok-round.ensures.call c.in_ok-round.ensures.reply;
}

pub returns : goal.returns
returns g c = record {
  line = c.loop.invariant.line;
  ended = stops-out_of_tries c.args.brief.now c.args.role c.loop.counter c.args.tries _ _ _ c.loop.invariant.goes (omega arith);
}

pub loop-init : goal.loop-init
loop-init g c = record { line = g.met.W.Wire.same_line_refl c.args.wire.now; goes = goes-start c.args.brief.now c.args.role _; few = omega arith }

pub loop-preserved : goal.loop-preserved
loop-preserved g c =
    let trans = g.met.W.Wire.same_line_trans in
    let line = trans _ _ _ c.loop.invariant.line c.next_due.ensures.line in
    elim c.match-branch-2.branch [
      | in-Owe+in_ok-hand_over-in-Owe w ↦ rw (w.wire-is, w.player-is, w.messages-is) (record {
        line = trans _ _ _ line w.hand_over.ensures.line;
        goes = goes-hands_over c.args.brief.now c.args.role c.loop.counter w.in-Owe.round w.in-Owe.owed _ _ _ _ _ _ _ _ _
            c.loop.invariant.goes w.in-Owe.is c.in_ok-round.ensures.call c.in_ok-round.ensures.reply w.in_ok-hand_over-in-Owe.ensures.told;
        few = omega arith;
      })
      | in-Hold w ↦ rw (w.wire-is, w.player-is, w.messages-is) (record {
        line = line;
        goes = goes-rests c.args.brief.now c.args.role c.loop.counter w.in-Hold.round _ _ _ _ _ _ _ _ _
            c.loop.invariant.goes w.in-Hold.is c.in_ok-round.ensures.call c.in_ok-round.ensures.reply w.rest.ensures;
        few = omega arith;
      })
    ]
