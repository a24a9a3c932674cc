use Rattle.kif_text.proofs.Printed.{canonical_spells_alone}
use Rattle.kif_text.proofs.laws.canonical_spells_alone.Goals as goal

pub returns : goal.returns
returns c = canonical_spells_alone
