use Rattle.std.proofs.Common.{arith}
use Rattle.std.proofs.lemmas.Bool.Decides.{nat_tests}
use Rattle.match_messages.proofs.Forms.{abort_other}
use Rattle.match_messages.proofs.reading.abort_in.Goals as goal
use Rattle.match_messages.proofs.reading.abort_in.Goals.{in_default-via-then-members-lt1, in_default-via-else-members-lt1+else-members-lt2}

pub returns-in_default : goal.returns-in_default
returns-in_default c = abort_other c.args.members.now
    (elim c.in_default.branch [
      | in_default-via-then-members-lt1 w ↦ λ is. grind (arith, nat_tests)
      | in_default-via-else-members-lt1+else-members-lt2 w ↦ λ is. grind (arith, nat_tests)
    ])
