use Rattle.std.proofs.Common.{◌++◌, Some, ap, sym, subst, ◌∙◌, map, length, arith}
use Rattle.std.specs.Vec.Iter.{into_iter_items}
use Rattle.serde_json.specs.View.{view, items_view}
use Rattle.record_reading.specs.Internal.JsonValues.{data_of}
use Rattle.record_reading.specs.Internal.Shown.{Shows, AnyShape}
use Rattle.record_reading.proofs.JsonData.{found_array, members_shown, shown_members, none_behind, next_shown, all_shown}
use Rattle.record_reading.proofs.json_values.list_in.Goals as goal

pub returns-in-None-2 : goal.returns-in-None-2
returns-in-None-2 g c =
    let is_array = found_array (data_of c.args.found) (items_view c.in-Some.members.items) c.in-Some.ensures in
    let unread = subst (λ o. Shows g.T.FromJson.written AnyShape (Some (view c.in-Some-member.member)) o) c.in-None-2.is c.in_ok-value.ensures in
    let done = map g.T.FromJson.written c.loop-member.items.items in
    let was = sym (ap (λ vs. done ++ map view vs) c.in-Some-member.ensures.steps.0) ∙ c.loop-member.invariant.rest ∙ ap (map view) c.into_iter-member-iterator.ensures.into_iter_gives.0 in
    λ xs shown any.
    none_behind g.T.FromJson.written c.loop-member.items.items (view c.in-Some-member.member) _ xs (was ∙ shown_members g.T.FromJson.written (data_of c.args.found) c.in-Some.members.items xs is_array shown) unread

pub loop-member-preserved : goal.loop-member-preserved
loop-member-preserved g c =
    let read = subst (λ o. Shows g.T.FromJson.written AnyShape (Some (view c.in-Some-member.member)) o) c.in-Some-2.is c.in_ok-value.ensures in
    let steps = c.in-Some-member.ensures.steps in
    let done = map g.T.FromJson.written c.loop-member.items.items in
    record {
      len = omega (arith, c.loop-member.invariant.len, steps.1, ap length steps.0);
      rest = next_shown g.T.FromJson.written c.loop-member.items.items c.push.new.self.items c.in-Some-2.value (view c.in-Some-member.member) (map view (into_iter_items c.next.new.self)) _ c.in_ok-push-in-Some-2.ensures.items read.0
          (sym (ap (λ vs. done ++ map view vs) steps.0) ∙ c.loop-member.invariant.rest);
    }

pub returns : goal.returns
returns g c =
    let is_array = found_array (data_of c.args.found) (items_view c.in-Some.members.items) c.in-Some.ensures in
    let none = sym c.in-None.ensures.steps.0 ∙ c.loop-member.invariant.len in
    let all = all_shown g.T.FromJson.written c.loop-member.items.items (into_iter_items c.loop-member.member-iterator) _ none c.loop-member.invariant.rest in
    (members_shown g.T.FromJson.written (data_of c.args.found) c.in-Some.members.items c.loop-member.items.items is_array (sym (ap (map view) c.into_iter-member-iterator.ensures.into_iter_gives.0) ∙ all), tt)
