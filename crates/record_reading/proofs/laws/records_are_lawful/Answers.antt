use Rattle.record_reading.proofs.LawfulParts as proved
use Rattle.record_reading.proofs.laws.records_are_lawful.Goals as goal

pub returns : goal.returns
returns g c = proved.records_are_lawful (g.G.Game.rules c.args.game.now)
