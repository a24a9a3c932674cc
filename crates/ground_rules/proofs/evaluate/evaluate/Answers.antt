use Rattle.std.proofs.Common.{refl}
use Rattle.numbered_rules.specs.Numbered.{numbered, rules_of}
use Rattle.ground_rules.proofs.Pass.{pass-fits}
use Rattle.ground_rules.proofs.evaluate.evaluate.Goals as goal

pub returns-clause-fits : goal.returns-clause-fits
returns-clause-fits c rank ranked = rw (c.pass.ensures, c.in_ok-row.ensures) (pass-fits (numbered c.args.state.now c.args.joint.now) rank c.args.atoms (rules_of c.args.rules.now) (λ x y. refl) ranked)
