use Rattle.std.proofs.Common.{ap, sym}
use Rattle.desk_calls.specs.declared.answer.Answer.TheVariants.{Broken}
use Rattle.desk_calls.specs.declared.call.Call.TheVariants.{Abort, Next}
use Rattle.role_workers.specs.Steps.{answer_call}
use Rattle.role_workers.proofs.GivenUp.{shown_call, gave_up, gave_up_due}
use Rattle.role_workers.proofs.seats.give_up.Goals as goal

pub returns-in_default : goal.returns-in_default
returns-in_default g c =
    let w = g.W.Wire in
    let of = c.args.unattended in
    let abort = shown_call w (Abort of.brief.now.id) _ c.in_ok-ask.field-0 c.args.own.now c.ask.new.self (ap Abort c.in_ok-id.ensures) c.in_ok-ask.ensures.call c.in_ok-ask.ensures.reply in
    let next = shown_call w (Next of.brief.now.id of.role) _ c.in_ok-due.due c.ask.new.self c.ask-2.new.self (ap (λ i. Next i of.role) c.in_ok-id-2.ensures) c.in_ok-due.ensures.call c.in_ok-due.ensures.reply in
    gave_up w of c.in_ok-ask.field-0 c.in_ok-due.due c.args.own.now c.ask.new.self c.ask-2.new.self abort next (sym c.in_default.ensures)

pub returns : goal.returns
returns g c =
    let w = g.W.Wire in
    let of = c.args.unattended in
    let abort = shown_call w (Abort of.brief.now.id) _ c.in_ok-ask.field-0 c.args.own.now c.ask.new.self (ap Abort c.in_ok-id.ensures) c.in_ok-ask.ensures.call c.in_ok-ask.ensures.reply in
    let next = shown_call w (Next of.brief.now.id of.role) _ c.in_ok-due.due c.ask.new.self c.ask-2.new.self (ap (λ i. Next i of.role) c.in_ok-id-2.ensures) c.in_ok-due.ensures.call c.in_ok-due.ensures.reply in
    let answer = shown_call w (answer_call of.brief.now.id of.role c.in-Some.round Broken) _ c.in_ok-ask-2.field-0 c.ask-2.new.self c.ask-3.new.self c.in_ok-call.ensures c.in_ok-ask-2.ensures.call c.in_ok-ask-2.ensures.reply in
    gave_up_due w of c.in_ok-ask.field-0 c.in_ok-due.due c.in_ok-ask-2.field-0 c.in-Some.round c.args.own.now c.ask.new.self c.ask-2.new.self c.ask-3.new.self abort next (sym c.in-Some.ensures) answer
