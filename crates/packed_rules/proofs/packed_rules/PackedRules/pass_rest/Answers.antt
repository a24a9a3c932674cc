use Rattle.std.proofs.Common.{◌≡◌, [], ap, take, drop, ◌∙◌}
use Rattle.ground_rules.specs.Numbered.{rules_of}
use Rattle.packed_rules.specs.Internal.PackedPass.{packed_after, rules_in}
use Rattle.packed_rules.proofs.PackedPasses.{packed-pass}
use Rattle.packed_rules.proofs.packed_rules.PackedRules.pass_rest.Goals as goal

pub returns-clause-terms : goal.returns-clause-terms
returns-clause-terms c =
    let p = c.self.inside in
    let after : c.pass.result ≡ packed_after p.terms [] c.args.bits (rules_in p.rest) = c.pass.ensures in
    rw (← c.self.view_is) (ap (take p.terms) after ∙ (packed-pass p.terms [] c.args.bits (rules_in p.rest) (rules_of p.plain.value.rest.items) c.self.invariant.0.rules).terms)

pub returns-clause-atoms : goal.returns-clause-atoms
returns-clause-atoms c =
    let p = c.self.inside in
    let after : c.pass.result ≡ packed_after p.terms [] c.args.bits (rules_in p.rest) = c.pass.ensures in
    rw (← c.self.view_is) (ap (drop p.terms) after ∙ (packed-pass p.terms [] c.args.bits (rules_in p.rest) (rules_of p.plain.value.rest.items) c.self.invariant.0.rules).atoms)

pub pass-requires : goal.pass-requires
pass-requires c = c.self.invariant.0.cut
