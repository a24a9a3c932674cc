use Rattle.record_reading.proofs.OneRecord as proved
use Rattle.record_reading.proofs.laws.refused_is_unlawful.Goals as goal

pub returns : goal.returns
returns g c = proved.refused_is_unlawful (g.G.Game.rules c.args.game.now) c.lawful_parts_have_shape.ensures
