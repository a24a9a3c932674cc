use Rattle.ground_rules.specs.Described.{situation}
use Rattle.ground_rules.proofs.Fits.{one_fit}
use Rattle.ground_rules.specs.Lawfulness.Names.{derived-sound}
use Rattle.ground_rules.proofs.laws.one_fit.Goals as goal

pub returns : goal.returns
returns c d terms names moves acyclic = one_fit (situation terms names moves) d derived-sound acyclic
