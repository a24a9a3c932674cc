use Rattle.kif_text.proofs.Sizes.{spelled_has_atoms}
use Rattle.kif_text.proofs.laws.spelled_has_atoms.Goals as goal

pub returns : goal.returns
returns c = spelled_has_atoms
