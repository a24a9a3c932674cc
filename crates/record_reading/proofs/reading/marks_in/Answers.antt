use Rattle.std.proofs.Common.{Some, subst, sym, ◌∙◌}
use Rattle.serde_json.specs.View.{view, items_view}
use Rattle.record_reading.specs.RecordTree.{mark_tree}
use Rattle.record_reading.specs.Internal.JsonValues.{data_in}
use Rattle.record_reading.specs.Internal.Shown.{Shows, AnyShape}
use Rattle.record_reading.proofs.JsonData.{found_array, shown_length, members_shown, member_not_shown, member_more, members_all}
use Rattle.record_reading.proofs.reading.marks_in.Goals as goal

pub returns-in-None : goal.returns-in-None
returns-in-None c =
    let is_array = found_array (data_in c.args.found) (items_view c.in-Some.members.now) c.in-Some.ensures in
    let unread = subst (λ o. Shows mark_tree AnyShape (Some (view c.member-item.result)) o) c.in-None.is c.mark_in.ensures in
    λ marks shown wide.
    member_not_shown mark_tree AnyShape (data_in c.args.found) c.in-Some.members.now c.loop-member.member-index c.member-item.result c.loop-member-test.true c.member-item.is is_array unread marks shown (λ k d below. tt)

pub loop-member-preserved : goal.loop-member-preserved
loop-member-preserved c =
    member_more mark_tree c.in-Some.members.now c.loop-member.member-index c.member-item.result c.loop-member.items.items c.push.new.self.items c.in-Some-mark_in.mark c.loop-member-test.true c.member-item.is c.loop-member.invariant c.in-Some-mark_in.ensures.0
    c.in_ok-push-in-Some-mark_in.ensures.items

pub returns-then-members-roles : goal.returns-then-members-roles
returns-then-members-roles c =
    let is_array = found_array (data_in c.args.found) (items_view c.in-Some.members.now) c.in-Some.ensures in
    λ marks shown wide. c.if-members-roles.true (shown_length mark_tree (data_in c.args.found) c.in-Some.members.now marks is_array shown ∙ wide)

pub returns : goal.returns
returns c =
    let is_array = found_array (data_in c.args.found) (items_view c.in-Some.members.now) c.in-Some.ensures in
    let shown =
    members_shown mark_tree (data_in c.args.found) c.in-Some.members.now c.loop-member.items.items is_array
    (members_all mark_tree c.in-Some.members.now c.loop-member.member-index c.loop-member.items.items c.loop-member-test.false c.loop-member.invariant) in
    (shown, sym (shown_length mark_tree (data_in c.args.found) c.in-Some.members.now c.loop-member.items.items is_array shown) ∙ c.if-members-roles.false)
