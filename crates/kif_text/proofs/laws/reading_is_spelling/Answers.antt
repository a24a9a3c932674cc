use Rattle.kif_text.proofs.Readings.{reading_is_spelling}
use Rattle.kif_text.proofs.laws.reading_is_spelling.Goals as goal

pub returns : goal.returns
returns c = reading_is_spelling
