use Rattle.std.specs.Io.KnownBytes.{Keeps}
use Rattle.process_streams.proofs.standard.StandardWrite.write.Given as goal

abbrev pub invariant-loop : goal.invariant-loop
invariant-loop g l = Keeps (g.S.Write.contents l.initial.self.stream) (g.S.Write.contents l.self.stream)
