use Rattle.std.proofs.lemmas.Result.{err_from_is_err_and}
use Rattle.game_core.specs.Expression.{max_depth}
use Rattle.kif_text.specs.Machine.{step}
use Rattle.kif_text.specs.Internal.Following.{state_of}
use Rattle.kif_text.proofs.Running.{goes_on, stops, is_done}
use Rattle.kif_text.proofs.reading.read.Goals as goal

pub returns-in_err-step : goal.returns-in_err-step
returns-in_err-step c =
    let p = err_from_is_err_and c.from_residual.result c.from_residual.ensures.1 in
    rw (p.1, p.2) (stops _ (step max_depth) (state_of c.loop-at.reader) c.loop-at.at c.args.text.now _ c.loop-at-test.true c.in_err-step.ensures c.loop-at.invariant)

pub loop-at-preserved : goal.loop-at-preserved
loop-at-preserved c = goes_on (step max_depth) (state_of c.loop-at.reader) (state_of c.step.new.self) c.loop-at.at c.args.text.now _ c.loop-at-test.true c.in_ok-step.ensures c.loop-at.invariant

pub returns : goal.returns
returns c =
    let done = is_done (step max_depth) (state_of c.loop-at.reader) c.loop-at.at c.args.text.now _ c.loop-at-test.false c.loop-at.invariant in
    rw done c.finish.ensures
