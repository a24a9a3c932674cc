use Rattle.call_history.proofs.Histories.{run-snoc}
use Rattle.call_history.proofs.laws.run_with_one_more.Goals as goal

pub returns : goal.returns
returns g c = run-snoc g.O.Object.reply g.O.Object.after c.args.object.now c.args.history.now c.args.last.now
