use Rattle.std.proofs.Common.{List, Bool, ap, take, drop, ◌∙◌}
use Rattle.ground_rules.specs.Lookups.{marked}
use Rattle.packed_rules.proofs.PackedPasses.{none-terms, none-atoms}
use Rattle.packed_rules.proofs.lookups.mark.Goals as goal

pub loop-mention-init : goal.loop-mention-init
loop-mention-init c = record {
  terms = ap (λ (xs : List Bool). marked xs (drop c.args.terms c.args.truth.now) c.args.mentions.now) (ap (take c.args.terms) c.in_ok-bits.ensures ∙ none-terms c.args.terms c.args.atoms);
  atoms = ap (drop c.args.terms) c.in_ok-bits.ensures ∙ none-atoms c.args.terms c.args.atoms;
}
