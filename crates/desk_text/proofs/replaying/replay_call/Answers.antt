use Rattle.std.proofs.Common.{rules, ◌≡◌, refl, ap, sym, ◌∙◌}
use Rattle.call_history.specs.declared.journal.Entry.{Entry}
use Rattle.desk_calls.specs.declared.call.Call.{Call}
use Rattle.desk_calls.specs.declared.call.Reply.{Reply}
use Rattle.desk_text.specs.Account.{entry_call, entry_text}
use Rattle.desk_text.proofs.Accounts.{apart_when_not}
use Rattle.desk_text.proofs.replaying.replay_call.Goals as goal

pub returns-clause-ok : goal.returns-clause-ok
returns-clause-ok g c =
    let e : Entry Call Reply = record { line = c.args.line; call = c.args.call.now; reply = g.O.Object.reply c.args.object.now c.args.call.now } in
    let is_line : c.args.text.now ≡ entry_text e = search rules in
    let is_new : c.apply.new.self ≡ g.O.Object.after c.args.object.now c.args.call.now = search rules in
    (e, is_line, ap entry_call (sym is_line) ∙ c.requires, refl, is_new)

pub returns-then-ne-clause-refused : goal.returns-then-ne-clause-refused
returns-then-ne-clause-refused g c =
    let e : Entry Call Reply = record { line = c.args.line; call = c.args.call.now; reply = g.O.Object.reply c.args.object.now c.args.call.now } in
    let is_text : c.in_ok-right.right.items ≡ entry_text e = search rules in
    let differ = apart_when_not c.as_slice.result.now c.args.text.now (sym c.if-ne.ensures) in
    (refl, e, c.requires, refl, is_text, λ same. differ (c.as_slice.ensures.value ∙ (is_text ∙ sym same)))
