use Rattle.std.proofs.Common.{◌≤◌, ℕ, Some, length, subst, sym}
use Rattle.std.specs.Prelude.{All}
use Rattle.std.proofs.lemmas.List.Elements.{All-push}
use Rattle.serde_json.specs.View.{view, items_view}
use Rattle.game_core.specs.Play.{max_goal}
use Rattle.record_reading.specs.Internal.JsonValues.{data_in}
use Rattle.record_reading.specs.Internal.Shown.{Shows}
use Rattle.record_reading.specs.RecordTree.{whole_tree}
use Rattle.record_reading.proofs.JsonData.{found_array, shown_length, members_shown, member_not_shown, member_more, members_all}
use Rattle.record_reading.proofs.RecordShapes.{goals_small, other_count, goals_counted}
use Rattle.record_reading.proofs.reading.goals_in.Goals as goal

abbrev IsGoal : ℕ → Type 0
IsGoal goal = goal ≤ max_goal

pub returns-in-None : goal.returns-in-None
returns-in-None c =
    let is_array = found_array (data_in c.args.found) (items_view c.in-Some.members.now) c.in-Some.ensures in
    let unread = subst (λ o. Shows whole_tree IsGoal (Some (view c.member-item.result)) o) c.in-None.is c.goal_in.ensures in
    λ goals shown shape.
    member_not_shown whole_tree IsGoal (data_in c.args.found) c.in-Some.members.now c.loop-member.member-index c.member-item.result c.loop-member-test.true c.member-item.is is_array unread goals shown (goals_small c.args.roles goals shape)

pub loop-member-preserved : goal.loop-member-preserved
loop-member-preserved c = record {
  shown =
      member_more whole_tree c.in-Some.members.now c.loop-member.member-index c.member-item.result c.loop-member.items.items c.push.new.self.items c.in-Some-goal_in.goal c.loop-member-test.true c.member-item.is c.loop-member.invariant.shown
      c.in-Some-goal_in.ensures.0 c.in_ok-push-in-Some-goal_in.ensures.items;
  small =
      subst (λ goals. All IsGoal goals) (sym c.in_ok-push-in-Some-goal_in.ensures.items)
      (All-push IsGoal c.loop-member.items.items c.in-Some-goal_in.goal c.loop-member.invariant.small c.in-Some-goal_in.ensures.1);
}

pub returns-then-not-is_goal_count : goal.returns-then-not-is_goal_count
returns-then-not-is_goal_count c =
    let is_array = found_array (data_in c.args.found) (items_view c.in-Some.members.now) c.in-Some.ensures in
    λ goals shown shape.
    other_count c.args.roles (length c.in-Some.members.now) goals (shown_length whole_tree (data_in c.args.found) c.in-Some.members.now goals is_array shown) (sym c.if-not-is_goal_count.ensures) shape

pub returns : goal.returns
returns c =
    let is_array = found_array (data_in c.args.found) (items_view c.in-Some.members.now) c.in-Some.ensures in
    let shown =
    members_shown whole_tree (data_in c.args.found) c.in-Some.members.now c.loop-member.items.items is_array
    (members_all whole_tree c.in-Some.members.now c.loop-member.member-index c.loop-member.items.items c.loop-member-test.false c.loop-member.invariant.shown) in (
      shown,
      goals_counted c.args.roles (length c.in-Some.members.now) c.loop-member.items.items (shown_length whole_tree (data_in c.args.found) c.in-Some.members.now c.loop-member.items.items is_array shown) (sym c.if-not-is_goal_count.ensures)
          c.loop-member.invariant.small,
    )
