use Rattle.std.proofs.Common.{take, drop}
use Rattle.serde_json.specs.View.{view}
use Rattle.record_reading.specs.Internal.KeyReading.{HoldsForEach, IsReadAt}
use Rattle.record_reading.specs.RecordTree.{keys}
use Rattle.record_reading.proofs.TakenKeys.{IsLeft}
use Rattle.record_reading.proofs.reading.parts_in.Given as goal

abbrev pub invariant-loop-key : goal.invariant-loop-key
invariant-loop-key g l = record {
  read : HoldsForEach (IsReadAt (g.G.Game.rules l.game) (view l.fn.tree) l.parts) (take l.key-index keys);
  left : HoldsForEach (IsLeft (view l.fn.tree) l.members) (drop l.key-index keys);
}
