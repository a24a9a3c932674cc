use Rattle.std.proofs.Common.{◌<◌, ◌/◌, ◌%◌, length, arith, w64}
use Rattle.std.proofs.lemmas.Nat.Bits.{bit_at_set_same, bit_at_set_other}
use Rattle.packed_rules.proofs.BitRows.{bits-set}
use Rattle.packed_rules.proofs.bits.raise.Goals as goal

pub returns : goal.returns
returns c size =
    let lt : c.args.place / 64 < length c.args.words.now = omega (arith, c.requires) in
    let k : c.args.place % 64 < 64 = omega arith in
    bits-set c.args.words.now c.args.place _ size lt (bit_at_set_same w64 _ _ k) (bit_at_set_other w64 _ _ k)
