use Rattle.std.proofs.Common.{◌≤◌, length, take}
use Rattle.std.specs.Io.KnownBytes.{Appends}
use Rattle.game_core.specs.Counting.{CallsMade}
use Rattle.http_exchange.proofs.sending.send.Given as goal

abbrev pub invariant-loop-call : goal.invariant-loop-call
invariant-loop-call g l = record {
  within : l.taken ≤ length l.text;
  stands : Appends (g.S.Write.contents l.initial.stream.stream) (g.S.Write.contents l.stream.stream) (take l.taken l.text);
  kept : l.initial.stream.faults ≤ l.stream.faults;
  called : CallsMade l.call l.initial.stream.calls l.stream.calls;
}
