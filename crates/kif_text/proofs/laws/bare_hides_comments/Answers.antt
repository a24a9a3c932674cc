use Rattle.kif_text.proofs.Comments.{bare_hides_comments}
use Rattle.kif_text.proofs.laws.bare_hides_comments.Goals as goal

pub returns : goal.returns
returns c = bare_hides_comments
