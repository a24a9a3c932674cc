use Rattle.std.proofs.Common.{◌∙◌, ap}
use Rattle.std.specs.Prelude.{◌==◌}
use Rattle.match_book.specs.Phase.{settled}
use Rattle.record_check.proofs.RecordEnds.{end-answer}
use Rattle.record_check.proofs.ending.is_right_end.Goals as goal

pub returns : goal.returns
returns g c =
    let game = g.G.Game.rules c.args.game.now in
    let retired = c.args.retired in
    let settles = c.in_ok-settlement.ensures.stage ∙ ap (λ n. settled game n (retired == game.roles) c.args.state.now) c.count.ensures in
    end-answer game c.args.parts.now c.args.state.now retired c.roles.result c.in_ok-settlement.settlement.stage c.agrees_with.result c.roles.ensures settles c.agrees_with.ensures
