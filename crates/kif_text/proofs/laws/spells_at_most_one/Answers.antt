use Rattle.kif_text.proofs.SpelledIsRead.{spells_one}
use Rattle.kif_text.proofs.laws.spells_at_most_one.Goals as goal

pub returns : goal.returns
returns c = spells_one
