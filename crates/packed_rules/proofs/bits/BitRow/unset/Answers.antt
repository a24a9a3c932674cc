use Rattle.std.proofs.Common.{◌≡◌, replicate, rules}
use Rattle.packed_rules.proofs.BitRows.{bits-zero}
use Rattle.packed_rules.proofs.bits.BitRow.unset.Goals as goal

pub returns : goal.returns
returns c =
    let words = c.div_ceil.result in
    let e : c.in_ok-words.words.items ≡ replicate words 0 = search rules in
    rw e (bits-zero words c.args.size)
