use Rattle.std.proofs.Common.{◌≡◌, drop}
use Rattle.numbered_rules.specs.Fit.{all_true}
use Rattle.numbered_rules.specs.Numbered.{bit, numbered, views}
use Rattle.ground_rules.proofs.evaluate.all_hold.Given as goal

abbrev pub invariant-loop-literal : goal.invariant-loop-literal
invariant-loop-literal l = all_true (numbered l.state l.joint) (bit l.row) (views (drop l.literal-index l.literals)) ≡ all_true (numbered l.state l.joint) (bit l.row) (views l.literals)
