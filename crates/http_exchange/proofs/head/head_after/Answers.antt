use Rattle.std.proofs.Common.{inl, inr}
use Rattle.http_exchange.proofs.Heads.{starts}
use Rattle.http_exchange.proofs.head.head_after.Goals as goal

pub returns-in-Unfinished-clause-starts : goal.returns-in-Unfinished-clause-starts
returns-in-Unfinished-clause-starts c = starts c.args.kind c.args.bytes.now c.head_at.result c.head_at.ensures

pub returns-in_default : goal.returns-in_default
returns-in_default c =
    elim c.requires [
      | inl nothing ↦ absurd (c.in_default.not-Unfinished nothing)
      | inr is ↦ record { head = is; starts = starts c.args.kind c.args.bytes.now c.args.before is }
    ]
