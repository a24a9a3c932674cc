use Rattle.std.proofs.Common.{arith}
use Rattle.std.proofs.lemmas.Bool.Decides.{nat_tests}
use Rattle.match_messages.proofs.Forms.{id_and_moves-other}
use Rattle.match_messages.proofs.reading.id_and_moves.Goals as goal
use Rattle.match_messages.proofs.reading.id_and_moves.Goals.{in_default-via-then-members-lt2, in_default-via-else-members-lt2+else-members-lt3}

pub returns-in_default : goal.returns-in_default
returns-in_default c = id_and_moves-other c.args.members.now
    (elim c.in_default.branch [
      | in_default-via-then-members-lt2 w ↦ λ is. grind (arith, nat_tests)
      | in_default-via-else-members-lt2+else-members-lt3 w ↦ λ is. grind (arith, nat_tests)
    ])
