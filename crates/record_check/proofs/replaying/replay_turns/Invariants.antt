use Rattle.record_check.proofs.Replays.{HasCome}
use Rattle.record_check.proofs.replaying.replay_turns.Given as goal

abbrev pub invariant-loop-turn : goal.invariant-loop-turn
invariant-loop-turn g l = HasCome (g.G.Game.rules l.game) l.parts l.turn l.state l.strikes.items
