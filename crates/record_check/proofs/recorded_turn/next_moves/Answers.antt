use Rattle.std.proofs.Common.{◌≡◌, ◌∙◌, true, false, rules, subst, sym, true≢false}
use Rattle.match_book.specs.RoleStrikes.{is_retired_in}
use Rattle.match_book.specs.Roles.{every_role}
use Rattle.record_check.proofs.recorded_turn.next_moves.Goals as goal

pub returns-then-are_all_retired : goal.returns-then-are_all_retired
returns-then-are_all_retired g c =
    let retired = is_retired_in c.args.strikes.now in
    let all : every_role (g.G.Game.rules c.args.game.now).roles retired ≡ true = subst (λ n. every_role n retired ≡ true) c.requires.strikes (sym c.are_all_retired.ensures ∙ c.if-are_all_retired.true) in
    λ goes_on. true≢false (sym all ∙ goes_on.2)

pub returns-in-None-default : goal.returns-in-None-default
returns-in-None-default g c =
    let retired = is_retired_in c.args.strikes.now in
    let some : every_role (g.G.Game.rules c.args.game.now).roles retired ≡ false = subst (λ n. every_role n retired ≡ false) c.requires.strikes (sym c.are_all_retired.ensures ∙ c.if-are_all_retired.false) in
    search rules
