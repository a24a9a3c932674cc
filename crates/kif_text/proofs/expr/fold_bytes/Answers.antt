use Rattle.std.proofs.Common.{get_or, arith}
use Rattle.std.proofs.lemmas.List.{get_or_default}
use Rattle.std.proofs.lemmas.List.Edits.{map_over_more}
use Rattle.game_core.specs.Bytes.{lower}
use Rattle.kif_text.proofs.expr.fold_bytes.Goals as goal

pub loop-byte-preserved : goal.loop-byte-preserved
loop-byte-preserved c =
    let ys = c.loop-byte.bytes in
    let i = c.loop-byte.byte-index in
    let x = get_or ys i 0 in
    rw c.lower.ensures (map_over_more lower c.args.bytes.now ys i x c.loop-byte-test.true c.loop-byte.invariant (get_or_default ys i 0 x (omega arith)))
