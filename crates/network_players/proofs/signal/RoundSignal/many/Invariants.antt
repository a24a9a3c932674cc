use Rattle.std.proofs.Common.{◌≡◌, length}
use Rattle.network_players.proofs.signal.RoundSignal.many.Given as goal

abbrev pub invariant-loop : goal.invariant-loop
invariant-loop l = length l.signals.items ≡ l.counter
