use Rattle.std.proofs.Common.{rules, arith, sym}
use Rattle.match_book.specs.Phase.{has_no_goal}
use Rattle.match_book.proofs.RoleTests.{lowest_role-more, lowest_role-found, at_role-push}
use Rattle.match_book.proofs.settlement.goals_of.Goals as goal

pub returns-then-is_none-clause-lowest : goal.returns-then-is_none-clause-lowest
returns-then-is_none-clause-lowest g c =
    sym (lowest_role-found (g.G.Game.rules c.args.game.now).roles c.loop-role.role (has_no_goal (g.G.Game.rules c.args.game.now) c.args.state.now) c.loop-role.invariant.none_yet (search rules) (omega arith))

pub loop-role-preserved : goal.loop-role-preserved
loop-role-preserved g c = record {
  none_yet = lowest_role-more c.loop-role.role (has_no_goal (g.G.Game.rules c.args.game.now) c.args.state.now) c.loop-role.invariant.none_yet (search rules);
  wide = omega (arith, c.in_ok-push.ensures.len);
  goals = rw c.in_ok-push.ensures.items (at_role-push c.loop-role.goals.items c.loop-role.role c.in_ok-goal.goal (λ r. (g.G.Game.rules c.args.game.now).goal c.args.state.now r) (omega (arith, c.loop-role.goals.ok.0)) c.loop-role.invariant.goals (search rules));
}
