use Rattle.kif_text.proofs.Readings.{folded_text_reads_back}
use Rattle.kif_text.proofs.laws.folded_text_reads_back.Goals as goal

pub returns : goal.returns
returns c = folded_text_reads_back
