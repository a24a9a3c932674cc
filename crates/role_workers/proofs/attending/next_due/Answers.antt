use Rattle.std.proofs.Common.{refl, ap}
use Rattle.std.proofs.lemmas.Result.{err_from_is_err_and}
use Rattle.desk_calls.specs.declared.call.Call.TheVariants.{Next}
use Rattle.role_workers.specs.AttendFaults.{next_fault}
use Rattle.role_workers.specs.Attending.{not_made}
use Rattle.role_workers.proofs.CallStops.{stops_without_reply, stops_at_reply, stray_reply}
use Rattle.role_workers.proofs.attending.next_due.Goals as goal

pub returns-in_err-id-clause-fault : goal.returns-in_err-id-clause-fault
returns-in_err-id-clause-fault g c =
    let p = err_from_is_err_and c.from_residual.result c.from_residual.ensures.1 in rw p.1 (not_made p.2 refl refl)

pub returns-in_err-due-clause-fault : goal.returns-in_err-due-clause-fault
returns-in_err-due-clause-fault g c =
    let p = err_from_is_err_and c.from_residual-in_err-due.result c.from_residual-in_err-due.ensures.1 in
    rw p.1 (stops_without_reply _ _ _ _ _ _ _ _ _ (ap (λ id. Next id c.args.role) c.in_ok-id.ensures) p.2 c.in_err-due.ensures.maybe_call c.in_err-due.ensures.no_reply)

pub returns-in-Refused-clause-fault : goal.returns-in-Refused-clause-fault
returns-in-Refused-clause-fault g c =
    stops_at_reply _ _ _ _ c.in_ok-due.field-0 _ _ _ _ (ap (λ id. Next id c.args.role) c.in_ok-id.ensures) (ap next_fault c.in-Refused.is) c.in_ok-due.ensures.call c.in_ok-due.ensures.reply

pub returns-in_default : goal.returns-in_default
returns-in_default g c = record {
  line = c.in_ok-due.ensures.line;
  call = tt;
  reply = tt;
  fault = stops_at_reply _ _ _ _ c.in_ok-due.field-0 _ _ _ _ (ap (λ id. Next id c.args.role) c.in_ok-id.ensures)
      (stray_reply c.in_ok-due.field-0 c.in_default.not-Due c.in_default.not-Refused) c.in_ok-due.ensures.call c.in_ok-due.ensures.reply;
}
