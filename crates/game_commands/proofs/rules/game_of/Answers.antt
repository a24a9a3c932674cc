use Rattle.std.proofs.Common.{inr, refl, rules}
use Rattle.game_commands.proofs.rules.game_of.Goals as goal

pub returns-in-Err-clause-refused : goal.returns-in-Err-clause-refused
returns-in-Err-clause-refused c = inr (refl, c.in-Err.ensures.refused (λ is. search rules))
