use Rattle.std.proofs.lemmas.Result.{IfOk-weaker}
use Rattle.match_play.proofs.playing.told_of.Goals as goal

pub returns-clause-told : goal.returns-clause-told
returns-clause-told g c = IfOk-weaker c.read.result _ _ (λ told is-told. (c.in-Some.held.now, c.in-Some.ensures.ended, is-told)) c.read.ensures.told
