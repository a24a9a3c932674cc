use Rattle.std.proofs.Common.{◌∷◌, [], ◌∙◌, sym, ap, refl, length, length-append, subst, arith}
use Rattle.role_workers.specs.Seats.{IsSeatOf}
use Rattle.role_workers.specs.declared.seat.Seat.{Seat}
use Rattle.role_workers.proofs.Places.{EachAt-push, first_of}
use Rattle.role_workers.proofs.seats.seat_players.Goals as goal

pub loop-role-preserved : goal.loop-role-preserved
loop-role-preserved g c =
    let was = c.loop-role.invariant in
    let w = first_of c.loop-role.role c.args.wires.items c.in-Some.wire c.next.new.self.rest.items (sym c.in-Some.ensures.cases.0 ∙ was.wires) in
    let p = first_of c.loop-role.role c.args.players.items c.in-Some-next.player c.next-in-loop-role.new.self.rest.items (sym c.in-Some-next.ensures.cases.0 ∙ was.players) in
    let seat : Seat g.row.P.Denot g.row.W.Denot = record { brief = c.args.brief; role = c.loop-role.role; player = c.in-Some-next.player; wire = c.in-Some.wire; is_role = c.push-arg-1.given.0 } in
    let here : IsSeatOf c.args.brief.now c.args.players.items c.args.wires.items c.loop-role.role seat = record { brief_is = refl; role_is = refl; player_is = p.at; wire_is = w.at } in
    let old = c.loop-role.seats.items in
    record {
      wires = w.left;
      players = p.left;
      count = omega (arith, ap length c.in_ok-push.ensures.items, length-append old (seat ∷ []), was.count);
      within = (omega (arith, w.within), omega (arith, p.within));
      each = EachAt-push (IsSeatOf c.args.brief.now c.args.players.items c.args.wires.items) old c.push.new.self.items seat c.in_ok-push.ensures.items was.each
          (subst (λ n. IsSeatOf c.args.brief.now c.args.players.items c.args.wires.items n seat) (sym was.count) here);
    }
