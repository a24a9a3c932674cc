use Rattle.std.specs.Io.KnownBytes.{Keeps}
use Rattle.process_streams.proofs.standard.StandardRead.read.Given as goal

abbrev pub invariant-loop : goal.invariant-loop
invariant-loop g l = Keeps (g.S.Read.remaining l.initial.self.stream) (g.S.Read.remaining l.self.stream)
