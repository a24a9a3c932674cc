use Rattle.std.proofs.Common.{◌≡◌, Ok, [], ap, ◌∙◌, arith}
use Rattle.std.proofs.lemmas.Result.{err_from_is_err_and}
use Rattle.std.proofs.lemmas.Grind.{common_steps}
use Rattle.game_core.specs.Expression.{max_depth}
use Rattle.kif_text.specs.View.{view, views}
use Rattle.kif_text.specs.Machine.{start, ◌>>=◌, one_step, run, finish, last_of}
use Rattle.kif_text.specs.Internal.Following.{state_of}
use Rattle.kif_text.proofs.Running.{goes_on, stops, is_done, fails_on}
use Rattle.kif_text.proofs.Views.{last_views}
use Rattle.kif_text.proofs.reading.read_single.Goals as goal

pub returns-in_err-single_step : goal.returns-in_err-single_step
returns-in_err-single_step c =
    let p = err_from_is_err_and c.from_residual.result c.from_residual.ensures.1 in
    rw (p.1, p.2) (fails_on _ (run (one_step max_depth) start 0 c.args.text.now >>= finish) last_of (stops _ (one_step max_depth) (state_of c.loop-at.reader) c.loop-at.at c.args.text.now _ c.loop-at-test.true c.in_err-single_step.ensures c.loop-at.invariant))

pub loop-at-preserved : goal.loop-at-preserved
loop-at-preserved c = goes_on (one_step max_depth) (state_of c.loop-at.reader) (state_of c.single_step.new.self) c.loop-at.at c.args.text.now _ c.loop-at-test.true c.in_ok-single_step.ensures c.loop-at.invariant

pub returns-in_err-found : goal.returns-in_err-found
returns-in_err-found c =
    let p = err_from_is_err_and c.from_residual-in_err-found.result c.from_residual-in_err-found.ensures.1 in
    let done = is_done (one_step max_depth) (state_of c.loop-at.reader) c.loop-at.at c.args.text.now _ c.loop-at-test.false c.loop-at.invariant in
    rw (p.1, p.2, done) (fails_on _ (finish (state_of c.loop-at.reader)) last_of c.in_err-found.ensures)

pub returns-in-Some : goal.returns-in-Some
returns-in-Some c =
    let done = is_done (one_step max_depth) (state_of c.loop-at.reader) c.loop-at.at c.args.text.now _ c.loop-at-test.false c.loop-at.invariant in
    let last : last_of (views c.in_ok-found.found.items) ≡ Ok (view c.in-Some.expr) = ap (λ xs. last_of (views xs)) c.in-Some.ensures.items ∙ last_views c.pop.new.self.items c.in-Some.expr in
    ap (λ r. r >>= finish >>= last_of) done ∙ ap (λ r. r >>= last_of) c.in_ok-found.ensures ∙ last

pub returns : goal.returns
returns c =
    let done = is_done (one_step max_depth) (state_of c.loop-at.reader) c.loop-at.at c.args.text.now _ c.loop-at-test.false c.loop-at.invariant in
    let empty : c.in_ok-found.found.items ≡ [] = grind (arith, common_steps) in
    ap (λ r. r >>= finish >>= last_of) done ∙ ap (λ r. r >>= last_of) c.in_ok-found.ensures ∙ ap (λ xs. last_of (views xs)) empty
