use Rattle.std.proofs.Common.{◌≡◌, ◌∷◌, false, List, length, slice_index_or, sym, ◌∙◌, ap, arith}
use Rattle.std.specs.Vec.Iter.{into_iter_items}
use Rattle.std.proofs.lemmas.List.{get_or_past}
use Rattle.call_history.specs.Lines.{LockLineValue}
use Rattle.call_history.proofs.ReturnedLines.{IsGathering-start, IsGathering-take, IsGathering-pass, IsGathering-end}
use Rattle.call_history.proofs.gathering.gather.Goals as goal
use Rattle.call_history.proofs.gathering.gather.Goals.{else-place-awaited-via-then-place-awaited+else-awaited-place, else-place-awaited-via-else-place-awaited}

pub loop-line-init : goal.loop-line-init
loop-line-init g c =
    let given = c.into_iter-line-iterator.ensures.into_iter_gives in
    let requires = c.requires in
    record {
      can_next = tt;
      is_finite = tt;
      len = omega (arith, given.1, ap length given.0, c.args.lines.ok.0);
      so_far = IsGathering-start c.args.lines.items _ c.args.awaited.now c.args.made_by_line.now _ _ requires.all requires.awaited requires.zeros requires.no_parts requires.no_amount given.0;
    }

pub loop-line-preserved-then-awaited-place : goal.loop-line-preserved-then-awaited-place
loop-line-preserved-then-awaited-place g c =
    let l = c.loop-line in
    let rest : List LockLineValue = into_iter_items c.next.new.self in
    let line : LockLineValue = record { number = c.line.inside.number; made = c.line.inside.made } in
    let steps = c.in-Some.ensures.steps in
    record {
      can_next = tt;
      is_finite = tt;
      len = omega (arith, steps.1, ap length steps.0, l.invariant.len);
      so_far = IsGathering-take c.args.lines.items _ rest line l.awaited l.made_by_line l.gathered.parts l.gathered.amount _ _ l.invariant.so_far
          (steps.0 ∙ ap (λ (x : LockLineValue). x ∷ rest) (sym c.line.view_is)) c.if-awaited-place.true
          (omega (arith, c.merge.ensures.parts, c.line.invariant.0)) (omega (arith, c.merge.ensures.amount, c.line.invariant.1));
    }

pub loop-line-preserved : goal.loop-line-preserved
loop-line-preserved g c =
    let l = c.loop-line in
    let rest : List LockLineValue = into_iter_items c.next.new.self in
    let line : LockLineValue = record { number = c.line.inside.number; made = c.line.inside.made } in
    let steps = c.in-Some.ensures.steps in
    let passed : slice_index_or l.awaited line.number false ≡ false = elim c.else-place-awaited.branch [
      | else-place-awaited-via-then-place-awaited+else-awaited-place w ↦ w.if-awaited-place.false
      | else-place-awaited-via-else-place-awaited w ↦ get_or_past l.awaited line.number false w.if-place-awaited.false
    ] in
    record {
      can_next = tt;
      is_finite = tt;
      len = omega (arith, steps.1, ap length steps.0, l.invariant.len);
      so_far = IsGathering-pass c.args.lines.items _ rest line l.awaited l.made_by_line _ _ l.invariant.so_far (steps.0 ∙ ap (λ (x : LockLineValue). x ∷ rest) (sym c.line.view_is)) passed;
    }

pub returns-clause-parts : goal.returns-clause-parts
returns-clause-parts g c =
    let l = c.loop-line in
    let none_left : length (into_iter_items l.line-iterator) ≡ 0 = omega (arith, l.invariant.len, c.in-None.ensures.steps.0) in
    (IsGathering-end c.args.lines.items _ l.awaited l.made_by_line _ _ l.invariant.so_far none_left).0 ∙ l.auto.awaited
