use Rattle.record_reading.proofs.LawfulParts as proved
use Rattle.record_reading.proofs.laws.lawful_parts_have_shape.Goals as goal

pub returns : goal.returns
returns g c =
    let game = c.args.game.now in
    proved.lawful_parts_have_shape (g.G.Game.rules game) (g.met.G.Game.laws game) (c.lawful_turns_are_of_the_game.ensures.states game) (c.stages_are_settled.ensures.stopping game)
