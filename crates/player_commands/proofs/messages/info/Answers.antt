use Rattle.std.proofs.Common.{inl, inr, refl}
use Rattle.std.proofs.lemmas.Result.{err_from_is_err_and}
use Rattle.player_commands.proofs.messages.info.Goals as goal

pub returns-in_err-write_unanswered-in-Err-clause-at_fault : goal.returns-in_err-write_unanswered-in-Err-clause-at_fault
returns-in_err-write_unanswered-in-Err-clause-at_fault g c =
    let passed = err_from_is_err_and c.from_residual-in_err-write_unanswered-in-Err.result c.from_residual-in_err-write_unanswered-in-Err.ensures.1 in
    rw (passed.1, passed.2, c.if-plan.true) (elim c.in_err-write_unanswered-in-Err.ensures.at_fault [
      | inl short ↦ inl (rw short.0 short.1)
      | inr part ↦ inr (part.0, (_, inr (refl, (c.in-Err.fault, refl)), part.1))
    ])
