use Rattle.std.proofs.Common.{ap, take, true, ◌∙◌}
use Rattle.std.proofs.Math.Seq.{take-set-lt}
use Rattle.packed_rules.proofs.bits.BitRow.set_before.Goals as goal

pub returns-then-place-end-clause-before : goal.returns-then-place-end-clause-before
returns-then-place-end-clause-before c = ap (take c.args.end) c.set.ensures ∙ take-set-lt c.args.end c.args.self.now c.args.place true c.if-place-end.true
