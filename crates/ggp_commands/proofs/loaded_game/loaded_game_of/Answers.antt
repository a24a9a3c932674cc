use Rattle.std.proofs.Common.{inl}
use Rattle.std.proofs.lemmas.Result.{err_from_is_err_and}
use Rattle.ggp_commands.proofs.loaded_game.loaded_game_of.Goals as goal

pub returns-in_err-game-clause-fault : goal.returns-in_err-game-clause-fault
returns-in_err-game-clause-fault g c =
    let passed = err_from_is_err_and c.from_residual.result c.from_residual.ensures.1 in
    rw (passed.1, passed.2) (inl c.in_err-game.ensures.refused)
