use Rattle.std.proofs.Common.{drop, ap, ◌∙◌}
use Rattle.ground_rules.specs.Numbered.{bit}
use Rattle.packed_rules.specs.Bits.{bits_of}
use Rattle.packed_rules.proofs.bits.BitRow.is_set_after.Goals as goal

pub returns : goal.returns
returns c = rw (← c.self.view_is) (c.is_on_after.ensures ∙ ap (λ ws. bit (drop c.args.start (bits_of ws c.self.inside.size)) c.args.place) c.deref.ensures.value)
