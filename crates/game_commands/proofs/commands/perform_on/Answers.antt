use Rattle.std.proofs.Common.{inr, refl}
use Rattle.game_commands.proofs.commands.perform_on.Goals as goal

pub returns-in-Ok-clause-answers : goal.returns-in-Ok-clause-answers
returns-in-Ok-clause-answers g c = rw c.in-Some.is (refl, (c.in_ok-input.input, c.perform-2.new.reader, c.in-Ok.ensures.answers))

pub returns-clause-fails : goal.returns-clause-fails
returns-clause-fails g c =
    rw c.in-Some.is (refl, inr (c.in-Err.fault, c.input_file_fault.ensures, (c.in_ok-input.input, c.perform-2.new.reader, c.in-Err.ensures.fails)))
