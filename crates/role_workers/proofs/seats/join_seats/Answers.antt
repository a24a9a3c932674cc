use Rattle.std.proofs.Common.{◌≡◌, ◌∙◌, [], ◌∷◌, ◌+◌, drop, length, length-append, sym, ap, arith}
use Rattle.role_workers.specs.Internal.Promises.{IsKept}
use Rattle.role_workers.proofs.Places.{EachAt-push, first_of}
use Rattle.role_workers.proofs.seats.join_seats.Goals as goal

pub loop-handle-preserved : goal.loop-handle-preserved
loop-handle-preserved g c =
    let was = c.loop-handle.invariant in
    let old = c.loop-handle.attended.items in
    let steps = c.in-Some.ensures.steps in
    let first = first_of (length old) c.args.handles.items c.in-Some.handle _ (sym steps.0 ∙ was.rest) in
    let left = c.join.result in
    let here : IsKept g.W.Wire g.P.Player c.args.handles.items (length old) left = record { handle = c.in-Some.handle; is_handle = first.at; left_by = c.join.ensures } in
    let pushed = c.in_ok-push.ensures.items in
    let all = c.push.new.self.items in
    let count : length all ≡ length old + 1 = omega (arith, ap length pushed, length-append old (left ∷ [])) in
    record {
      rest = first.left ∙ ap (λ n. drop n c.args.handles.items) (sym count);
      left = omega (arith, was.left, steps.1, count);
      each = EachAt-push (IsKept g.W.Wire g.P.Player c.args.handles.items) old all left pushed was.each here;
    }
