use Rattle.std.proofs.Common.{take}
use Rattle.role_workers.specs.Internal.GivenUp.{AreGivenUp}
use Rattle.role_workers.proofs.seats.give_up_all.Given as goal

abbrev pub invariant-loop-unattended : goal.invariant-loop-unattended
invariant-loop-unattended g l = AreGivenUp g.W.Wire (take l.unattended-index l.roles) l.fn.own l.own
