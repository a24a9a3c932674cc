use Rattle.std.proofs.Common.{◌≢◌, arith, length-set, get_or-set_other, ◌∙◌}
use Rattle.kif_text.proofs.Folding.{fold_one_more, folded_all}
use Rattle.kif_text.proofs.expr.+fold.Goals as goal

pub fold_all-loop-i-preserved : goal.fold_all-loop-i-preserved
fold_all-loop-i-preserved t c =
    let xs = c.args.members.now.items in
    let ys = c.loop-i.members.items in
    let i = c.loop-i.i in
    let inv = c.loop-i.invariant in
    record {
      unvisited = (length-set ys i c.fold.new.expr ∙ inv.unvisited.0, λ k d h. let ne : k ≢ i = omega arith in rw get_or-set_other (inv.unvisited.1 k d (omega arith)));
      done = fold_one_more xs ys i c.index_mut.result.now c.fold.new.expr (omega (arith, inv.unvisited.0)) (omega (arith, inv.unvisited.0)) c.index_mut.ensures.value c.fold.ensures inv.done;
    }

pub fold_all-returns : goal.fold_all-returns
fold_all-returns t c = folded_all c.args.members.now.items c.loop-i.members.items c.loop-i.i (omega (arith, c.loop-i.invariant.unvisited.0)) c.loop-i.invariant.done
