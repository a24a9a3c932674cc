use Rattle.match_book.proofs.LawfulTurns.{turns_lead_to_states, turns_have_moves}
use Rattle.match_book.proofs.laws.lawful_turns_are_of_the_game.Goals as goal

pub returns-clause-states : goal.returns-clause-states
returns-clause-states g c = λ game. turns_lead_to_states (g.G.Game.rules game) (g.met.G.Game.laws game)

pub returns-clause-moves : goal.returns-clause-moves
returns-clause-moves g c = λ game. turns_have_moves (g.G.Game.rules game) (g.met.G.Game.laws game)
