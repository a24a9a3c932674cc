use Rattle.std.proofs.Common.{◌≡◌, ap, ◌∙◌, arith, rules, string_bytes}
use Rattle.serde_json.specs.Data.{put}
use Rattle.serde_json.specs.View.{view, members_view}
use Rattle.serde_json.proofs.Views.{members_view-insert_entry}
use Rattle.record_reading.proofs.KeptMembers.{one_kept}
use Rattle.record_reading.proofs.kept_tree.keep_member.Goals as goal

pub returns-in_ok-insert : goal.returns-in_ok-insert
returns-in_ok-insert c =
    let found = c.args.found.now.entries in
    let old = members_view found in
    let v = c.unwrap_or.result in
    let copied : string_bytes c.in_ok-key.key ≡ c.args.name.now = search rules in
    ap members_view c.in_ok-insert.ensures.entries ∙ members_view-insert_entry found c.in_ok-key.key v ∙ ap (λ name. put name (view v) old) copied
    ∙ one_kept c.args.name.now c.args.lists c.args.member v old (omega arith) c.unwrap_or.ensures
