use Rattle.std.proofs.Common.{◌≡◌, ◌<◌, length, get_or, arith, ◌∙◌, subst}
use Rattle.std.proofs.lemmas.List.{get_or_read}
use Rattle.call_history.specs.declared.port.Port.{Port}
use Rattle.call_history.specs.RingLines.{SamePort}
use Rattle.call_history.specs.Rounds.{GainsOne}
use Rattle.call_history.proofs.ServedLines.{serves_by, serves_with, same_ports_set, gains_with, gains_one, passed_by, rest_after, visits_one, visits_idle}
use Rattle.call_history.proofs.serving.serve_round.Goals as goal
use Rattle.call_history.proofs.serving.serve_round.Goals.{then-did, else-did}

pub overflow_add-served : goal.overflow_add-served
overflow_add-served g c = omega (arith, c.loop-i.invariant.few)

pub loop-i-preserved : goal.loop-i-preserved
loop-i-preserved g c =
    let lt : c.loop-i.i < length c.loop-i.ports.items = omega (arith, c.loop-i.invariant.same.count) in
    let one : SamePort (get_or c.loop-i.ports.items c.loop-i.i c.serve.new.port) c.serve.new.port =
    (let at : c.index_mut-port.result.now ≡ get_or c.loop-i.ports.items c.loop-i.i c.serve.new.port = get_or_read _ _ _ lt c.index_mut-port.ensures.value c.serve.new.port in
    let P : Port g.row.O-Call.Denot g.row.O-Reply.Denot → Type 0 = λ x. SamePort x c.serve.new.port in
    subst P at c.in-Ok.ensures.same) in
    let passed = passed_by _ c.loop-i.ports.items c.loop-i.i c.index_mut-port.result.now c.serve.new.port (λ p. get_or_read _ _ _ lt c.index_mut-port.ensures.value p) c.loop-i.invariant.rest in
    let rest = rest_after _ c.loop-i.ports.items c.loop-i.i c.serve.new.port c.loop-i.invariant.rest in
    let same = same_ports_set _ _ _ _ c.loop-i.invariant.same lt one in
    elim c.if-did.branch [
      | then-did w ↦
          (let adds : GainsOne c.loop-i.i c.loop-i.journal.history c.serve.new.journal.history = (rw w.if-did.true at c.in-Ok.ensures.gains) in
          rw w.served-is (record {
            serves = serves_by _ _ _ _ _ lt adds c.loop-i.invariant.serves c.in-Ok.ensures.serves;
            same = same;
            most = c.in-Ok.ensures.most ∙ c.loop-i.invariant.most;
            within = c.in-Ok.ensures.within;
            opening = c.in-Ok.ensures.opening ∙ c.loop-i.invariant.opening;
            few = omega (arith, c.loop-i.invariant.few);
            gains = gains_one _ _ _ _ _ c.loop-i.invariant.gains adds;
            visits = visits_one _ _ _ _ _ _ _ _ lt c.loop-i.invariant.gains adds c.loop-i.invariant.visits;
            rest = rest;
          }))
      | else-did w ↦
          (let none : c.serve.new.journal.history ≡ c.loop-i.journal.history = (rw w.if-did.false at c.in-Ok.ensures.gains) in
          rw w.served-is (record {
            serves = serves_with _ _ _ _ _ none c.loop-i.invariant.serves c.in-Ok.ensures.serves;
            same = same;
            most = c.in-Ok.ensures.most ∙ c.loop-i.invariant.most;
            within = c.in-Ok.ensures.within;
            opening = c.in-Ok.ensures.opening ∙ c.loop-i.invariant.opening;
            few = omega (arith, c.loop-i.invariant.few);
            gains = gains_with _ _ _ _ _ c.loop-i.invariant.gains none;
            visits = visits_idle _ _ _ _ _ _ _ lt none (passed (c.in-Ok.ensures.passed w.if-did.false)) c.loop-i.invariant.visits;
            rest = rest;
          }))
    ]
