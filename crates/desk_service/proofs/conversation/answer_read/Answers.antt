use Rattle.std.proofs.Common.{[], sym, subst}
use Rattle.std.proofs.lemmas.List.{append-nil}
use Rattle.call_history.specs.History.{EndsLegalHistory}
use Rattle.desk_service.specs.Rows.{Answered}
use Rattle.desk_service.proofs.AnsweredRows.{none_answered}
use Rattle.desk_service.proofs.Written.{left_as_it_is, nothing_written}
use Rattle.desk_service.proofs.conversation.answer_read.Goals as goal

pub returns-in-Err : goal.returns-in-Err
returns-in-Err g c =
    let legal = EndsLegalHistory g.O.Object.reply g.O.Object.after g.O.Object.opening in
    let line = c.args.line.now in
    let row = c.args.row.now.items in
    let stops = c.in-Err.ensures.stops in (
      [],
      [],
      row,
      line,
      stops.1,
      subst (λ l. Answered legal line line l [] row) (sym (append-nil row)) (none_answered legal line row),
      (left_as_it_is c.in-Err.ending line, (λ is. (c.requires.1, stops.2 is)), nothing_written c.in-Err.ending (g.W.Write.contents c.args.writer.now.stream)),
    )
