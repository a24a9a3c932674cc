use Rattle.std.proofs.Common.{false, sym, ◌∙◌}
use Rattle.std.proofs.lemmas.List.{get_or-take}
use Rattle.packed_rules.specs.Bits.{bits_of}
use Rattle.packed_rules.proofs.PackedPasses.{take-past}
use Rattle.packed_rules.proofs.bits.is_on_before.Goals as goal

pub returns-then-place-end : goal.returns-then-place-end
returns-then-place-end c = c.is_on.ensures ∙ sym (get_or-take c.args.end (bits_of c.args.words.now c.args.size) c.args.place false c.if-place-end.true)

pub returns-else-place-end : goal.returns-else-place-end
returns-else-place-end c = sym (take-past c.args.end (bits_of c.args.words.now c.args.size) c.args.place c.if-place-end.false)
