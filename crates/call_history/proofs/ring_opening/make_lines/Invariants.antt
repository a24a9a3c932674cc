use Rattle.std.proofs.Common.{◌≡◌, length}
use Rattle.std.specs.List.{All}
use Rattle.call_history.specs.RingLines.{AreNewLines, HasRoom}
use Rattle.call_history.specs.Rounds.{IsUnused}
use Rattle.call_history.proofs.ring_opening.make_lines.Given as goal

abbrev pub invariant-loop-number : goal.invariant-loop-number
invariant-loop-number g l = record {
  ports : length l.ports.items ≡ l.number;
  lines : length l.lines.items ≡ l.number;
  unused : All IsUnused l.ports.items;
  new : AreNewLines l.ports.items l.lines.items;
  room : All (HasRoom l.room) l.lines.items;
}
