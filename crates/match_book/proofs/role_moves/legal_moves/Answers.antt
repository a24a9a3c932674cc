use Rattle.std.proofs.Common.{rules, arith, sym}
use Rattle.match_book.specs.Phase.{has_no_move}
use Rattle.match_book.proofs.RoleTests.{lowest_role-more, lowest_role-found, get-push}
use Rattle.match_book.proofs.role_moves.legal_moves.Goals as goal

pub returns-then-is_empty-clause-lowest : goal.returns-then-is_empty-clause-lowest
returns-then-is_empty-clause-lowest g c =
    sym
    (lowest_role-found (g.G.Game.rules c.args.game.now).roles c.loop-role.role (has_no_move (g.G.Game.rules c.args.game.now) c.args.state.now) c.loop-role.invariant.none_yet (search rules) (omega arith))

pub loop-role-preserved : goal.loop-role-preserved
loop-role-preserved g c = record {
  none_yet = lowest_role-more c.loop-role.role (has_no_move (g.G.Game.rules c.args.game.now) c.args.state.now) c.loop-role.invariant.none_yet (search rules);
  wide = omega (arith, c.in_ok-push.ensures.len);
  legal = rw (c.in_ok-push.ensures.items, c.in_ok-items.ensures) (get-push c.loop-role.moves.items c.loop-role.role (λ r. (g.G.Game.rules c.args.game.now).legal c.args.state.now r) (omega (arith, c.loop-role.moves.ok.0)) c.loop-role.invariant.legal);
}
