use Rattle.std.proofs.Common.{arith}
use Rattle.std.proofs.lemmas.Bool.Decides.{nat_tests}
use Rattle.match_messages.proofs.Forms.{start_other}
use Rattle.match_messages.proofs.reading.start_in.Goals as goal
use Rattle.match_messages.proofs.reading.start_in.Goals.{in_default-via-then-members-lt5, in_default-via-else-members-lt5+else-members-lt6}

pub returns-in_default : goal.returns-in_default
returns-in_default c = start_other c.args.members.now
    (elim c.in_default.branch [
      | in_default-via-then-members-lt5 w ↦ λ is. grind (arith, nat_tests)
      | in_default-via-else-members-lt5+else-members-lt6 w ↦ λ is. grind (arith, nat_tests)
    ])
