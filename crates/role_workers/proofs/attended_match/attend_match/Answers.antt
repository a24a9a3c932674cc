use Rattle.std.proofs.Common.{◌∙◌, refl, ap, sym, subst}
use Rattle.std.specs.Prelude.{Contains, length, min}
use Rattle.std.proofs.lemmas.List.{length-map}
use Rattle.std.proofs.lemmas.List.Elements.{All-push, Contains-push}
use Rattle.call_history.specs.RingLines.{IsLineOf, AreEndsOf}
use Rattle.role_workers.specs.RoleLines.{IsFinishedOf}
use Rattle.role_workers.proofs.RoleLines.{desk_ends, left_lines}
use Rattle.role_workers.proofs.attended_match.attend_match.Goals as goal

pub returns-clause-ports : goal.returns-clause-ports
returns-clause-ports g c = (c.into_desk.ensures c.args.holder.desk c.requires.named).ports

pub returns-clause-opening : goal.returns-clause-opening
returns-clause-opening g c = (c.into_desk.ensures c.args.holder.desk c.requires.named).opening_is

pub returns-clause-lines : goal.returns-clause-lines
returns-clause-lines g c =
    let desk = c.into_desk.result in
    let same = (c.into_desk.ensures c.args.holder.desk c.requires.named).ports in
    let own = c.end.ensures ∙ ap (λ w. w.line) c.in_ok-own.ensures.own ∙ c.new-own.ensures.line in
    let finished = subst (λ l. IsFinishedOf l c.finish_line.result) own c.finish_line.ensures in
    let ends = desk_ends _ g.P.Player c.in_ok-wires.wires.items (λ x. x.line) (λ x. refl) (λ x. refl) (λ x y s. s) c.args.plan.brief c.args.plan.tries c.args.plan.players.items c.in_ok-seats.seats.items c.in_ok-own.attended.items
    c.args.others.items c.finish_all.new.lines.items c.in_ok-seats.ensures.seats c.in_ok-own.ensures.left c.in_ok-wires.ensures c.in_ok-finish_all.ensures.lines c.args.holder.desk.ports c.requires.seats c.lines_stay.ensures.lines c.new_lines_are_lines.ensures.lines desk.ports same c.requires.ports in
    subst (AreEndsOf desk.ports) (sym c.in_ok-push.ensures.items) (All-push (IsLineOf desk.ports) c.finish_all.new.lines.items c.finish_line.result ends
    (c.lines_stay.ensures.lines c.args.holder.desk.ports desk.ports c.args.holder.line c.finish_line.result same finished.same c.requires.first))

pub returns-clause-first : goal.returns-clause-first
returns-clause-first g c = (
  c.finish_line.result,
  subst (λ lines. Contains lines c.finish_line.result) (sym c.in_ok-push.ensures.items) (Contains-push c.finish_all.new.lines.items c.finish_line.result),
  subst (λ l. IsFinishedOf l c.finish_line.result) (c.end.ensures ∙ ap (λ w. w.line) c.in_ok-own.ensures.own ∙ c.new-own.ensures.line) c.finish_line.ensures,
)

pub returns-clause-count : goal.returns-clause-count
returns-clause-count g c =
    let wires = sym (length-map c.in_ok-wires.wires.items (λ w. w.line)) ∙ ap length c.in_ok-wires.ensures in
    ap length c.in_ok-finish_all.ensures.ends
    ∙ length-map c.in_ok-own.attended.items (λ a. a.end)
    ∙ c.in_ok-own.ensures.count
    ∙ c.in_ok-seats.ensures.count
    ∙ ap (λ lines. min (length c.args.plan.brief.roles) (min lines (length c.args.plan.players.items))) wires

pub returns-clause-ends : goal.returns-clause-ends
returns-clause-ends g c =
    let own = c.end.ensures ∙ ap (λ w. w.line) c.in_ok-own.ensures.own ∙ c.new-own.ensures.line in
    left_lines _ g.P.Player c.in_ok-wires.wires.items (λ x. x.line) (λ x. refl) (λ x. refl) (λ x y s. s) c.args.plan.brief c.args.plan.tries c.args.plan.players.items c.in_ok-seats.seats.items c.in_ok-own.attended.items
    c.args.others.items c.finish_all.new.lines.items c.in_ok-seats.ensures.seats c.in_ok-own.ensures.left c.in_ok-wires.ensures c.in_ok-finish_all.ensures.lines c.args.holder.desk.ports c.requires.seats
    c.finish_all.new.players.items c.in_ok-finish_all.ensures.players c.push.new.self.items c.finish_line.result c.in_ok-push.ensures.items (c.finish_line.ensures.same.0 ∙ ap (λ l. l.number) own ∙ c.requires.zeroth) c.finish_all.new.ends.items c.in_ok-finish_all.ensures.ends
