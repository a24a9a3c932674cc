use Rattle.kif_text.proofs.FoldedTexts.{folding_keeps_proper}
use Rattle.kif_text.proofs.laws.folding_keeps_proper.Goals as goal

pub returns : goal.returns
returns c = folding_keeps_proper
