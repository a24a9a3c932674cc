use Rattle.std.proofs.Common.{◌≡◌, ◌≤◌, ℕ, List, length}
use Rattle.std.specs.Io.KnownBytes.{Consumes, Appends}
use Rattle.game_core.specs.Counting.{CallsMade}
use Rattle.whole_streams.specs.Lines.{BeginsWithLines}
use Rattle.game_commands.specs.declared.verdicts.Verdict.{Verdict}
use Rattle.game_commands.specs.Verdicts.{AreVerdicts, verdict_lines, count_skipped, count_unlawful}
use Rattle.game_commands.proofs.checking.check_records.Given as goal

abbrev pub invariant-loop-place : goal.invariant-loop-place
invariant-loop-place g l = record {
  checked : (given : List ℕ) × (first : List (List ℕ)) × (verdicts : List Verdict)
      × Consumes (g.R.Read.remaining l.initial.reader.stream) (g.R.Read.remaining l.reader.stream) given
      × BeginsWithLines given first l.buffer
      × AreVerdicts (g.G.Game.rules l.game) first verdicts
      × Appends (g.W.Write.contents l.initial.writer.stream) (g.W.Write.contents l.writer.stream) (verdict_lines l.is_json verdicts)
      × (l.unlawful ≡ count_unlawful verdicts)
      × (l.skipped ≡ count_skipped verdicts)
      × (length verdicts ≡ l.place);
  few_unlawful : l.unlawful ≤ l.place;
  few_skipped : l.skipped ≤ l.place;
  calls : CallsMade 0 l.initial.reader.calls l.reader.calls;
  read : l.reader.faults ≡ l.initial.reader.faults;
  wrote : l.writer.faults ≡ l.initial.writer.faults;
}
