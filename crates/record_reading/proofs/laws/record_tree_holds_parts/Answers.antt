use Rattle.record_reading.proofs.LawfulParts as proved
use Rattle.record_reading.proofs.laws.record_tree_holds_parts.Goals as goal

pub returns : goal.returns
returns g c = proved.record_tree_holds_parts (g.G.Game.rules c.args.game.now)
