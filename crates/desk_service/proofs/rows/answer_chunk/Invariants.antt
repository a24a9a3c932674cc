use Rattle.std.proofs.Common.{◌++◌, length}
use Rattle.call_history.specs.History.{EndsLegalHistory}
use Rattle.desk_service.specs.Rows.{Answered, IsPartialRow}
use Rattle.desk_service.proofs.rows.answer_chunk.Given as goal

abbrev pub invariant-loop-piece : goal.invariant-loop-piece
invariant-loop-piece g l = record {
  answered : Answered (EndsLegalHistory g.O.Object.reply g.O.Object.after g.O.Object.opening) l.initial.line l.line (l.initial.row.items ++ l.chunk) l.out.items (l.row.items ++ l.rest);
  partial : IsPartialRow l.row.items;
}

abbrev pub decreases-loop-piece : goal.decreases-loop-piece
decreases-loop-piece g l = length l.rest
