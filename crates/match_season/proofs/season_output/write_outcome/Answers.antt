use Rattle.std.proofs.lemmas.Result.{IfErr-weaker, on_ok_weaker}
use Rattle.match_season.proofs.WrittenLines.{ended-match, no-matches}
use Rattle.match_season.proofs.season_output.write_outcome.Goals as goal

pub returns-in-Ok-clause-written : goal.returns-in-Ok-clause-written
returns-in-Ok-clause-written g c = rw c.in-Ok.is (on_ok_weaker c.write_ended.result (λ written. ended-match _ _ _ _ _ _ (c.args.over.is_output c.in-Ok.ended c.in-Ok.is) written) c.write_ended.ensures.written)

pub returns-in-Err-clause-written : goal.returns-in-Err-clause-written
returns-in-Err-clause-written g c = rw c.in-Err.is (no-matches _ _)

pub returns-in-Ok-clause-at_fault : goal.returns-in-Ok-clause-at_fault
returns-in-Ok-clause-at_fault g c =
    let ended = c.in-Ok.ended in
    IfErr-weaker c.write_ended.result _ _ (λ fault it. (it.0, it.1, record { text = ended.text; is_output = c.args.over.is_output ended c.in-Ok.is; part = it.2 })) c.write_ended.ensures.at_fault
