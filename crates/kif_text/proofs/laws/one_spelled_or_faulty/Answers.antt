use Rattle.kif_text.proofs.OneSpelled.{one_spelled_or_faulty}
use Rattle.kif_text.proofs.laws.one_spelled_or_faulty.Goals as goal

pub returns : goal.returns
returns c = one_spelled_or_faulty
