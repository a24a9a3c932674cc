use Rattle.record_reading.proofs.OneRecord as proved
use Rattle.record_reading.proofs.laws.holds_one_parts_at_most.Goals as goal

pub returns : goal.returns
returns g c = proved.holds_one_parts_at_most (g.G.Game.rules c.args.game.now) (g.met.G.Game.laws c.args.game.now)
