use Rattle.kif_text.proofs.FoldedTexts.{folding_twice_is_once}
use Rattle.kif_text.proofs.laws.folding_twice_is_once.Goals as goal

pub returns : goal.returns
returns c = folding_twice_is_once
