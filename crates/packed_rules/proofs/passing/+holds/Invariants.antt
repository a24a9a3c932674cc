use Rattle.std.proofs.Common.{◌≡◌, take, drop}
use Rattle.ground_rules.specs.Fit.{any_true}
use Rattle.ground_rules.specs.Numbered.{bit, numbered, views}
use Rattle.packed_rules.specs.Bits.{bits_of}
use Rattle.packed_rules.proofs.passing.+holds.Given as goal

abbrev pub invariant-any_holds-loop-literal : goal.invariant-any_holds-loop-literal
invariant-any_holds-loop-literal l =
    let bits = bits_of l.words l.size in
    any_true (numbered (take l.terms bits) l.joint) (bit (drop l.terms bits)) (views (drop l.literal-index l.literal-items)) ≡ any_true (numbered (take l.terms bits) l.joint) (bit (drop l.terms bits)) (views l.literal-items)
