use Rattle.std.proofs.Common.{inl, inr, refl}
use Rattle.std.proofs.lemmas.Result.{err_from_is_err_and}
use Rattle.ggp_commands.proofs.commands.prepared.Goals as goal

pub returns-in_err-loaded_game-clause-fault : goal.returns-in_err-loaded_game-clause-fault
returns-in_err-loaded_game-clause-fault g c =
    let passed = err_from_is_err_and c.from_residual.result c.from_residual.ensures.1 in
    rw (passed.1, passed.2) (inl (inl c.in_err-loaded_game.ensures.fault, refl))

pub returns-in_err-log-clause-fault : goal.returns-in_err-log-clause-fault
returns-in_err-log-clause-fault g c =
    let passed = err_from_is_err_and c.from_residual-in_err-log.result c.from_residual-in_err-log.ensures.1 in
    rw (passed.1, passed.2) (inl (inr c.in_err-log.ensures, refl))
