use Rattle.std.proofs.Common.{rules, ◌≡◌, ap, sym, ◌∙◌, true}
use Rattle.desk_calls.specs.Phases.{is_last}
use Rattle.desk_calls.specs.declared.phase.Status.{Status}
use Rattle.match_play.proofs.playing.ended_match_of.Goals as goal

pub returns-in-Finished-clause-ended : goal.returns-in-Finished-clause-ended
returns-in-Finished-clause-ended g c =
    let last : is_last c.status.result.phase ≡ true = search rules in
    record {
      is_first = c.game_and_match.ensures.held;
      over = ap (λ (s : Status). is_last s.phase) (sym c.status.ensures) ∙ last;
    }
