use Rattle.std.proofs.Common.{◌≤◌, ◌+◌, sym, arith}
use Rattle.std.proofs.Math.Seq.{set_out}
use Rattle.packed_rules.specs.Bits.{bits_of}
use Rattle.packed_rules.proofs.BitRows.{bits-length}
use Rattle.packed_rules.proofs.bits.turn_on_after.Goals as goal
use Rattle.packed_rules.proofs.bits.turn_on_after.Goals.{else-start-size-via-then-start-size+else-place-size, else-start-size-via-else-start-size}

pub returns-else-start-size : goal.returns-else-start-size
returns-else-start-size c =
    let words = c.args.words.now in
    let size = bits-length words c.args.size in
    let past : c.args.size ≤ c.args.start + c.args.place = elim c.else-start-size.branch [
      | else-start-size-via-then-start-size+else-place-size w ↦ omega (arith, w.if-start-size.true, w.if-place-size.false)
      | else-start-size-via-else-start-size w ↦ omega (arith, w.if-start-size.false)
    ] in
    sym (set_out (bits_of words c.args.size) (c.args.start + c.args.place) _ (omega (arith, size, past)))
