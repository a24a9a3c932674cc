use Rattle.std.proofs.Common.{sym, arith}
use Rattle.std.proofs.Math.Seq.{set_out}
use Rattle.packed_rules.specs.Bits.{bits_of}
use Rattle.packed_rules.proofs.BitRows.{bits-length}
use Rattle.packed_rules.proofs.bits.BitRow.set.Goals as goal

pub returns-else-place-self : goal.returns-else-place-self
returns-else-place-self c =
    let e = bits-length c.self.inside.words.items c.self.inside.size in
    rw (← c.self.view_is) (sym (set_out (bits_of c.self.inside.words.items c.self.inside.size) c.args.place _ (omega (arith, e, c.if-place-self.false))))
