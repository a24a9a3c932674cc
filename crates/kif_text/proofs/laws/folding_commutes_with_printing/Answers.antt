use Rattle.kif_text.proofs.FoldedTexts.{folding_commutes_with_printing}
use Rattle.kif_text.proofs.laws.folding_commutes_with_printing.Goals as goal

pub returns : goal.returns
returns c = folding_commutes_with_printing
