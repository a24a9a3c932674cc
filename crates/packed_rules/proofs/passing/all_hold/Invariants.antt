use Rattle.std.proofs.Common.{◌≡◌, take, drop}
use Rattle.ground_rules.specs.Fit.{all_true}
use Rattle.ground_rules.specs.Numbered.{bit, numbered, views}
use Rattle.packed_rules.specs.Bits.{bits_of}
use Rattle.packed_rules.proofs.passing.all_hold.Given as goal

abbrev pub invariant-loop-literal : goal.invariant-loop-literal
invariant-loop-literal l =
    let bits = bits_of l.words l.size in
    all_true (numbered (take l.terms bits) l.joint) (bit (drop l.terms bits)) (views (drop l.literal-index l.literals)) ≡ all_true (numbered (take l.terms bits) l.joint) (bit (drop l.terms bits)) (views l.literals)
