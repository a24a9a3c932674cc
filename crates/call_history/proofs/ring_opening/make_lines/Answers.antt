use Rattle.std.proofs.Common.{◌≡◌, ◌++◌, ◌∷◌, [], arith, sym, ◌∙◌}
use Rattle.std.proofs.lemmas.Grind.{common_steps}
use Rattle.std.proofs.lemmas.List.Elements.{All-push}
use Rattle.call_history.proofs.NewLines.{new_lines_snoc}
use Rattle.call_history.proofs.DeskLines.{lines_of_new}
use Rattle.call_history.specs.RingLines.{HasRoom}
use Rattle.call_history.specs.Rounds.{IsUnused}
use Rattle.call_history.proofs.ring_opening.make_lines.Goals as goal

pub loop-number-preserved : goal.loop-number-preserved
loop-number-preserved g c =
    let ports : c.push.new.self.items ≡ c.loop-number.ports.items ++ c.in_ok-port.port ∷ [] = c.in_ok-push.ensures.items in
    let lines : c.push-in-loop-number.new.self.items ≡ c.loop-number.lines.items ++ c.in_ok-port.line ∷ [] = c.in_ok-push-2.ensures.items in
    let inv = c.loop-number.invariant in
    let made = c.in_ok-port.ensures in
    rw (ports, lines) (record {
      ports = grind (arith, common_steps, inv.ports);
      lines = grind (arith, common_steps, inv.lines);
      unused = All-push IsUnused _ _ inv.unused made.unused;
      new = new_lines_snoc _ _ _ _ (inv.ports ∙ sym inv.lines) inv.new (made.number ∙ sym inv.lines) made.rings made.posted made.taken;
      room = All-push (HasRoom c.args.room) _ _ inv.room made.room;
    })

pub returns-clause-of_ports : goal.returns-clause-of_ports
returns-clause-of_ports g c =
    let inv = c.loop-number.invariant in
    lines_of_new _ _ inv.new (inv.lines ∙ sym inv.ports)
