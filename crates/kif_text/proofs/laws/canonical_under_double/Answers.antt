use Rattle.kif_text.proofs.Sizes.{canonical_under_double}
use Rattle.kif_text.proofs.laws.canonical_under_double.Goals as goal

pub returns : goal.returns
returns c = canonical_under_double
