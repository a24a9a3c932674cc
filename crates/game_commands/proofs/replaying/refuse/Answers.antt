use Rattle.std.proofs.Common.{refl}
use Rattle.game_commands.proofs.replaying.refuse.Goals as goal

pub returns-clause-fault : goal.returns-clause-fault
returns-clause-fault c = (c.args.fault, c.replay_fault-refused.ensures, λ empty. c.in_ok-output.ensures, λ some. refl)
