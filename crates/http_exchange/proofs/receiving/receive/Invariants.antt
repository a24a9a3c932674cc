use Rattle.std.proofs.Common.{◌≤◌}
use Rattle.std.specs.Io.KnownBytes.{Consumes}
use Rattle.http_exchange.specs.Internal.Heads.{IsKnown}
use Rattle.game_core.specs.Counting.{CallsMade}
use Rattle.http_exchange.specs.WireFaults.{WantsMore}
use Rattle.http_exchange.proofs.receiving.receive.Given as goal

abbrev pub invariant-loop-call : goal.invariant-loop-call
invariant-loop-call g l = record {
  given : Consumes (g.S.Read.remaining l.initial.stream.stream) (g.S.Read.remaining l.stream.stream) l.bytes.items;
  wants : WantsMore l.kind l.bytes.items;
  kept : l.initial.stream.faults ≤ l.stream.faults;
  called : CallsMade l.call l.initial.stream.calls l.stream.calls;
  known : IsKnown l.kind l.bytes.items l.head;
}
