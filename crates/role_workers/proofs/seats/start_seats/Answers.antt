use Rattle.std.proofs.Common.{◌≡◌, ◌∙◌, [], ◌∷◌, ◌+◌, Some, length, length-append, drop, sym, ap, arith}
use Rattle.std.specs.Vec.Iter.{into_iter_items}
use Rattle.role_workers.specs.Internal.Promises.{IsPromisedFor}
use Rattle.role_workers.proofs.Places.{EachAt-push, first_of}
use Rattle.role_workers.proofs.seats.start_seats.Goals as goal

pub loop-seat-preserved : goal.loop-seat-preserved
loop-seat-preserved g c =
    let was = c.loop-seat.invariant in
    let seats = c.args.seats.items in
    let old = c.loop-seat.handles.items in
    let handle = c.in-Ok.handle in
    let steps = c.in-Some.ensures.steps in
    let first = first_of (length old) seats c.in-Some.seat (into_iter_items c.next.new.self) (sym steps.0 ∙ was.rest) in
    let promise = c.in-Ok.ensures.ok in
    let here : IsPromisedFor c.args.tries seats (length old) handle.promise = record {
      is_seat = first.at ∙ ap Some (sym (ap (λ p. p.seat.value) promise ∙ c.of.ensures));
      tries_are = ap (λ p. p.tries) promise;
    } in
    let pushed = c.in_ok-push.ensures.items in
    let all = c.push.new.self.items in
    let count : length all ≡ length old + 1 = omega (arith, ap length pushed, length-append old (handle ∷ [])) in
    record {
      rest = first.left ∙ ap (λ n. drop n seats) (sym count);
      left = omega (arith, was.left, steps.1, count);
      each = EachAt-push (λ k h. IsPromisedFor c.args.tries seats k h.promise) old all handle pushed was.each here;
    }
