use Rattle.std.proofs.Common.{sym, ◌∙◌}
use Rattle.packed_rules.proofs.BitRows.{bits-get, bits-past}
use Rattle.packed_rules.proofs.bits.is_on.Goals as goal

pub returns-then-place-size : goal.returns-then-place-size
returns-then-place-size c = c.test.ensures ∙ sym (bits-get c.args.words.now c.args.size c.args.place c.if-place-size.true)

pub returns-else-place-size : goal.returns-else-place-size
returns-else-place-size c = sym (bits-past c.args.words.now c.args.size c.args.place c.if-place-size.false)
