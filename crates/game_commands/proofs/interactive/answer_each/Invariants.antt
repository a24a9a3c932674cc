use Rattle.std.proofs.Common.{◌≡◌, ◌≤◌, ℕ, List, length}
use Rattle.std.specs.Io.KnownBytes.{Consumes, Appends}
use Rattle.game_core.specs.Counting.{CallsMade}
use Rattle.whole_streams.specs.Lines.{BeginsWithLines}
use Rattle.game_commands.specs.Script.{after_lines, answer_lines, bad_lines}
use Rattle.game_commands.proofs.interactive.answer_each.Given as goal

abbrev pub invariant-loop-place : goal.invariant-loop-place
invariant-loop-place g l = record {
  answered : (given : List ℕ) × (first : List (List ℕ))
      × Consumes (g.R.Read.remaining l.initial.reader.stream) (g.R.Read.remaining l.reader.stream) given
      × BeginsWithLines given first l.buffer
      × Appends (g.W.Write.contents l.initial.writer.stream) (g.W.Write.contents l.writer.stream) (answer_lines g.O.Object.reply g.O.Object.after l.initial.object first)
      × (l.object ≡ after_lines g.O.Object.after l.initial.object first)
      × (l.bad ≡ bad_lines first)
      × (length first ≡ l.place);
  few_bad : l.bad ≤ l.place;
  calls : CallsMade 0 l.initial.reader.calls l.reader.calls;
  read : l.reader.faults ≡ l.initial.reader.faults;
  wrote : l.writer.faults ≡ l.initial.writer.faults;
}
