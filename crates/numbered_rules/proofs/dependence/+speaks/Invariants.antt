use Rattle.std.proofs.Common.{◌≡◌, drop, []}
use Rattle.numbered_rules.specs.Fit.{any_true}
use Rattle.numbered_rules.specs.Numbered.{bit, numbered, views}
use Rattle.numbered_rules.specs.Exposed.{all_exposed}
use Rattle.numbered_rules.proofs.dependence.+speaks.Given as goal

abbrev pub invariant-any_speaks-loop-literal : goal.invariant-any_speaks-loop-literal
invariant-any_speaks-loop-literal l = any_true (numbered [] []) (bit l.row) (all_exposed l.of_state (views (drop l.literal-index l.literal-items))) ≡ any_true (numbered [] []) (bit l.row) (all_exposed l.of_state (views l.literal-items))
