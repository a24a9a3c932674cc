use Rattle.std.proofs.Common.{◌≡◌, sym, subst, ap, map, arith, ◌∙◌}
use Rattle.std.specs.Prelude.{option_to_list}
use Rattle.match_book.specs.Phase.{goal_of}
use Rattle.match_record.specs.Internal.Written.{HasAdded, HasBegun, IsWritten, each_tokens}
use Rattle.record_reading.specs.RecordParts.{goals_from}
use Rattle.record_reading.specs.RecordTree.{list_tree, whole_tree}
use Rattle.match_record.proofs.RecordLists.{goals-next}
use Rattle.match_record.proofs.WrittenRecords.{one_added, begun_many, list_written}
use Rattle.match_record.proofs.record.write_goals.Goals as goal

pub loop-role-init : goal.loop-role-init
loop-role-init g c = one_added c.in_ok-begin_array.ensures

pub loop-role-preserved : goal.loop-role-preserved
loop-role-preserved g c =
    let goals = goal_of (g.G.Game.rules c.args.game.now) c.args.held.now.value in
    let role = c.loop-role.role in
    let here : c.goal_of.result ≡ goals role = c.goal_of.ensures ∙ ap (λ x. goal_of (g.G.Game.rules x) c.args.held.now.value role) c.requires.game in
    subst (HasBegun c.args.out.now c.write_goal.new.out) (sym (goals-next role goals))
    (begun_many (map whole_tree (goals_from role goals)) (map whole_tree (option_to_list (goals role))) c.loop-role.invariant
    (subst (λ o. HasAdded c.loop-role.out c.write_goal.new.out (each_tokens (map whole_tree (option_to_list o)))) here c.in_ok-write_goal.ensures.written))

pub returns-clause-written : goal.returns-clause-written
returns-clause-written g c =
    let rules = g.G.Game.rules c.args.game.now in
    let goals = goal_of rules c.args.held.now.value in
    let all : c.loop-role.role ≡ rules.roles = omega (arith, c.loop-role-test.false, c.loop-role.auto.role-end, c.roles-role-end.ensures) in
    subst (λ n. IsWritten c.args.out.now c.end_array.new.self (list_tree (map whole_tree (goals_from n goals)))) all
    (list_written (map whole_tree (goals_from c.loop-role.role goals)) c.loop-role.invariant (one_added c.in_ok-end_array.ensures))
