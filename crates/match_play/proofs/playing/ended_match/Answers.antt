use Rattle.match_play.proofs.EndedMatches.{same-text}
use Rattle.match_play.proofs.playing.ended_match.Goals as goal

pub invariant_of-result : goal.invariant_of-result
invariant_of-result g c =
    let text = same-text _ _ _ _ _ c.deref.ensures.value c.in_ok-text.ensures in
    record { is_ended = ∣ record { desk = _; line = _; history = _; has_account = _; ended = c.in_ok-record.ensures.ended; replayed = c.in_ok-refereed.ensures.refereed.1.headline.replay; is_text = text } ∣₁ }

pub returns-clause-played : goal.returns-clause-played
returns-clause-played g c =
    let refereed = c.in_ok-refereed.ensures.refereed in (
      c.in_ok-record.record,
      c.in_ok-refereed.refereed.closed.history.items,
      record {
        desk = c.in_ok-refereed.refereed.closed.object;
        ended = c.in_ok-record.ensures.ended;
        made_by_line = c.in_ok-refereed.refereed.closed.made_by_line.items;
        ends = c.in_ok-refereed.refereed.ends.items;
        left = refereed.0;
        refereed = refereed.1;
      },
      same-text _ _ _ _ _ c.deref.ensures.value c.in_ok-text.ensures,
    )
