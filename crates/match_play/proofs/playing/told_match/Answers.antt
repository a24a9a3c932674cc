use Rattle.std.proofs.lemmas.Result.{IfOk-weaker}
use Rattle.match_play.proofs.playing.told_match.Goals as goal

pub returns-clause-told : goal.returns-clause-told
returns-clause-told g c =
    let refereed = c.in_ok-played.ensures.refereed in
    IfOk-weaker c.told_of.result _ _ (λ told it. record {
      desk = c.in_ok-played.played.closed.object;
      held = it.0;
      ended = it.1;
      is_so = it.2;
      history = c.in_ok-played.played.closed.history.items;
      made_by_line = c.in_ok-played.played.closed.made_by_line.items;
      ends = c.in_ok-played.played.ends.items;
      left = refereed.0;
      refereed = refereed.1;
    }) c.told_of.ensures.told
