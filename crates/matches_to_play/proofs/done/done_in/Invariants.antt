use Rattle.std.proofs.Common.{ℕ, List}
use Rattle.std.specs.Io.KnownBytes.{Consumes}
use Rattle.whole_streams.specs.Lines.{BeginsWithLines}
use Rattle.matches_to_play.specs.Done.{AreDone}
use Rattle.matches_to_play.proofs.done.done_in.Given as goal

abbrev pub invariant-loop : goal.invariant-loop
invariant-loop g l = (given : List ℕ) × (first : List (List ℕ))
    × Consumes (g.R.Read.remaining l.initial.reader.stream) (g.R.Read.remaining l.reader.stream) given
    × BeginsWithLines given first l.buffer
    × AreDone (g.G.Game.rules l.game) first l.done
