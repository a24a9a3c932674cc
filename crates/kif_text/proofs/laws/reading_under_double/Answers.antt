use Rattle.kif_text.proofs.Readings.{reading_under_double}
use Rattle.kif_text.proofs.laws.reading_under_double.Goals as goal

pub returns : goal.returns
returns c = reading_under_double
