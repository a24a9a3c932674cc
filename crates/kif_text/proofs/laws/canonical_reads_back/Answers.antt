use Rattle.kif_text.proofs.Readings.{canonical_reads_back}
use Rattle.kif_text.proofs.laws.canonical_reads_back.Goals as goal

pub returns : goal.returns
returns c = canonical_reads_back
