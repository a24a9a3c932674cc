use Rattle.std.proofs.Common.{ap, refl}
use Rattle.std.proofs.lemmas.Result.{err_from_is_err_and}
use Rattle.role_workers.specs.Events.{telling}
use Rattle.role_workers.proofs.HandedOver.{owed_message, nothing_handed, handed_over, handed_in_part}
use Rattle.role_workers.proofs.attending.hand_over.Goals as goal

pub returns-in_err-message-clause-fault : goal.returns-in_err-message-clause-fault
returns-in_err-message-clause-fault g c =
    let p = err_from_is_err_and c.from_residual.result c.from_residual.ensures.1 in
    rw p.1 (nothing_handed c.args.brief.now c.args.role c.args.due.round c.args.due.owed _ _ _ p.2 refl)

pub returns-in_err-answer-clause-fault : goal.returns-in_err-answer-clause-fault
returns-in_err-answer-clause-fault g c =
    let p = err_from_is_err_and c.from_residual-in_err-answer.result c.from_residual-in_err-answer.ensures.1 in
    rw p.1 (nothing_handed c.args.brief.now c.args.role c.args.due.round c.args.due.owed _ _ _ p.2 (ap (telling _ _) c.in_err-answer.ensures.nothing))

pub returns-clause-told : goal.returns-clause-told
returns-clause-told g c =
    let message = owed_message c.args.brief.now c.args.role c.args.due.owed c.in_ok-answer.answer _ _ _ _ c.seconds_for.ensures c.in_ok-message.ensures c.in_ok-answer.ensures.told in
    handed_over c.give_back.result c.args.brief.now c.args.role c.args.due.round c.args.due.owed c.in_ok-answer.answer _ _ _ _ _ _ message c.give_back.ensures.call c.give_back.ensures.reply

pub returns-clause-fault : goal.returns-clause-fault
returns-clause-fault g c =
    let message = owed_message c.args.brief.now c.args.role c.args.due.owed c.in_ok-answer.answer _ _ _ _ c.seconds_for.ensures c.in_ok-message.ensures c.in_ok-answer.ensures.told in
    handed_in_part c.give_back.result c.args.brief.now c.args.role c.args.due.round c.args.due.owed c.in_ok-answer.answer _ _ _ _ _ _ message c.give_back.ensures.fault
