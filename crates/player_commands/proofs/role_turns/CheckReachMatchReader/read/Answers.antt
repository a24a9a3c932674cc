use Rattle.std.proofs.Common.{sym, subst}
use Rattle.ground_rules.specs.LoadedGame.{loaded_game}
use Rattle.packed_rules.specs.PackedGames.{tables_of}
use Rattle.player_commands.specs.RoleTurns.{AreTurnsOf}
use Rattle.player_commands.proofs.role_turns.CheckReachMatchReader.read.Goals as goal

pub returns-clause-told : goal.returns-clause-told
returns-clause-told g c = subst (λ x. AreTurnsOf (loaded_game (tables_of x)) c.args.held.now.value.turns c.args.self.now.role c.in_ok-turns.turns.items) (sym c.requires) c.in_ok-turns.ensures
