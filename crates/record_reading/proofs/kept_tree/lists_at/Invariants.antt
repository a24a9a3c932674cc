use Rattle.std.proofs.Common.{◌≡◌, take}
use Rattle.record_reading.specs.Internal.KeyReading.{HoldsForEach}
use Rattle.record_reading.specs.RecordTree.{keys, key_text}
use Rattle.record_reading.proofs.kept_tree.lists_at.Given as goal

abbrev pub invariant-loop-key : goal.invariant-loop-key
invariant-loop-key l = HoldsForEach (λ key. key_text key ≡ l.text → ⊥) (take l.key-index keys)
