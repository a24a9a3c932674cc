use Rattle.match_messages.specs.declared.kind.MessageKind.TheVariants.{Play}
use Rattle.player_commands.proofs.watched.asks_for_move.Goals as goal

pub returns-in-None : goal.returns-in-None
returns-in-None c = (λ no. absurd cc, λ is. absurd (c.in-None.ensures Play is))
