use Rattle.std.proofs.Common.{take}
use Rattle.match_season.specs.Queues.{AreNumbersOf, Lengthens}
use Rattle.match_season.proofs.queue.numbers.Given as goal

abbrev pub invariant-loop-player : goal.invariant-loop-player
invariant-loop-player l = record {
  numbers : AreNumbersOf l.addresses.keys (take l.player-index l.players) l.numbers.items;
  kept : Lengthens l.initial.addresses.keys l.addresses.keys;
}
