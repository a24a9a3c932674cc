use Rattle.std.proofs.Common.{refl, sym}
use Rattle.std.proofs.lemmas.Result.{err_from_is_err_and}
use Rattle.role_workers.specs.Attending.{not_made}
use Rattle.role_workers.proofs.CallStops.{stops_without_reply, stops_at_reply}
use Rattle.role_workers.proofs.attending.give_back.Goals as goal

pub returns-in_err-call-clause-fault : goal.returns-in_err-call-clause-fault
returns-in_err-call-clause-fault g c =
    let p = err_from_is_err_and c.from_residual.result c.from_residual.ensures.1 in rw p.1 (not_made p.2 refl refl)

pub returns-in_err-reply-clause-fault : goal.returns-in_err-reply-clause-fault
returns-in_err-reply-clause-fault g c =
    let p = err_from_is_err_and c.from_residual-in_err-reply.result c.from_residual-in_err-reply.ensures.1 in
    rw p.1 (stops_without_reply _ _ _ _ _ _ _ _ _ c.in_ok-call.ensures p.2 c.in_err-reply.ensures.maybe_call c.in_err-reply.ensures.no_reply)

pub returns-clause-fault : goal.returns-clause-fault
returns-clause-fault g c =
    stops_at_reply _ _ _ _ c.in_ok-reply.reply _ _ _ _ c.in_ok-call.ensures (sym c.in-Some.ensures) c.in_ok-reply.ensures.call c.in_ok-reply.ensures.reply
