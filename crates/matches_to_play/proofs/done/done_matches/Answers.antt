use Rattle.std.proofs.lemmas.Result.{IfOk-weaker}
use Rattle.matches_to_play.proofs.done.done_matches.Goals as goal

pub returns-clause-done : goal.returns-clause-done
returns-clause-done g c = IfOk-weaker c.done_in.result _ _ (λ done are. (are.0, are.3)) c.done_in.ensures.done
