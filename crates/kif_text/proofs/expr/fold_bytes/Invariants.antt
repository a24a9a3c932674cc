use Rattle.std.proofs.Common.{◌≡◌, ◌++◌, map, take, drop}
use Rattle.game_core.specs.Bytes.{lower}
use Rattle.kif_text.proofs.expr.fold_bytes.Given as goal

abbrev pub invariant-loop-byte : goal.invariant-loop-byte
invariant-loop-byte l = l.bytes ≡ map lower (take l.byte-index l.fn.bytes) ++ drop l.byte-index l.fn.bytes
