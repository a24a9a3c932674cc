use Rattle.kif_text.proofs.NeverBoth.{spelled_or_faulty}
use Rattle.kif_text.proofs.laws.spelled_or_faulty.Goals as goal

pub returns : goal.returns
returns c = spelled_or_faulty
