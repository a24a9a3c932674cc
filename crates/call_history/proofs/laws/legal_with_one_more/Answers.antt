use Rattle.call_history.proofs.Histories.{IsLegalHistory-snoc, IsLegalHistory-unsnoc}
use Rattle.call_history.proofs.laws.legal_with_one_more.Goals as goal

pub returns : goal.returns
returns g c =
    let O = g.O.Object in (
      IsLegalHistory-unsnoc O.reply O.after c.args.object.now c.args.history.now c.args.last.now,
      λ both. IsLegalHistory-snoc O.reply O.after c.args.object.now c.args.history.now c.args.last.now both.0 both.1,
    )
