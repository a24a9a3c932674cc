use Rattle.std.proofs.Common.{◌≡◌, drop}
use Rattle.numbered_rules.specs.Fit.{any_true}
use Rattle.numbered_rules.specs.Numbered.{bit, numbered, views}
use Rattle.ground_rules.proofs.evaluate.+holds.Given as goal

abbrev pub invariant-any_holds-loop-literal : goal.invariant-any_holds-loop-literal
invariant-any_holds-loop-literal l = any_true (numbered l.state l.joint) (bit l.row) (views (drop l.literal-index l.literal-items)) ≡ any_true (numbered l.state l.joint) (bit l.row) (views l.literal-items)
