use Rattle.std.proofs.Common.{sym, ap, ◌∙◌}
use Rattle.std.specs.Prelude.{option_copied, slice_get}
use Rattle.match_workers.proofs.HeldGames.{same_game}
use Rattle.match_workers.proofs.refereed.Refereed.game_and_match.Goals as goal

pub returns-clause-game : goal.returns-clause-game
returns-clause-game g c =
    let d = c.args.self.now.closed.object in
    sym (same_game d (slice_get d.matches 0) c.unwrap-game.result.now c.unwrap-held.result.now
    (sym c.game_of_match.ensures ∙ ap option_copied c.unwrap-game.ensures)
    (sym c.match_at.ensures ∙ ap option_copied c.unwrap-held.ensures))
