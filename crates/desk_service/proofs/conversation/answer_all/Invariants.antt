use Rattle.std.proofs.Common.{List, ℕ}
use Rattle.std.specs.Io.KnownBytes.{Appends, Consumes}
use Rattle.call_history.specs.History.{EndsLegalHistory}
use Rattle.desk_service.specs.Rows.{Answered, IsPartialRow}
use Rattle.desk_service.proofs.conversation.answer_all.Given as goal

abbrev pub invariant-loop-turn : goal.invariant-loop-turn
invariant-loop-turn g l = record {
  answered : (given text : List ℕ)
      × Consumes (g.I.Read.remaining l.initial.reader.stream) (g.I.Read.remaining l.reader.stream) given
      × Answered (EndsLegalHistory g.O.Object.reply g.O.Object.after g.O.Object.opening) l.initial.line l.line given text l.row.items
      × Appends (g.W.Write.contents l.initial.writer.stream) (g.W.Write.contents l.writer.stream) text;
  partial : IsPartialRow l.row.items;
}
